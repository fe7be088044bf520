-- What a program does that reads its input into a buffer and prints a text made of what it read.
use Rattle.std.specs.Prelude.{ℕ, ◌≤◌, List, length, take, IfSome, Option}
use Rattle.std.specs.Io.KnownBytes.{Appends, Keeps}
use Rattle.format_print.specs.declared.Printed.{Printed}
use Rattle.format_print.specs.declared.Printed.TheVariants.{Length, Refused}

-- Known output grows by what is printed for the first bytes of known input, as many as the input's buffer has.
abbrev pub Prints : (room : ℕ) (print : List ℕ → List ℕ) (given old new : Option (List ℕ)) → Type 0
Prints room print given old new = IfSome given (λ xs. Appends old new (print (take room xs)))

-- The same where what is printed fits the output's buffer.
abbrev pub PrintsWithin : (room : ℕ) (print : List ℕ → List ℕ) (space : ℕ) (given old new : Option (List ℕ)) → Type 0
PrintsWithin room print space given old new = IfSome given (λ xs. length (print (take room xs)) ≤ space → Appends old new (print (take room xs)))

-- Known output grows by the text that a print call put at the start of a buffer; where the call refused it stays.
abbrev pub WritesPrinted : Printed → (out : List ℕ) (old new : Option (List ℕ)) → Type 0
WritesPrinted (Length n) out old new = n ≤ length out → Appends old new (take n out)
WritesPrinted (Refused number place) out old new = Keeps old new
