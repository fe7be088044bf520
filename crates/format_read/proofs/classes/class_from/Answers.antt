-- `format_read::classes::class_from` meets its contract: past the end no byte stands, and equal
-- classes have equal numbers.
use mathlib.Core.Path.{◌≡◌, refl, sym, ap, ap₂, ◌∙◌}
use lib.Dec.{eqb}
use denote.Enum.Declared.{tag_of}
use borrow.Author.Tests.{le-ltb, lt-ltb}
use Rattle.format_read.specs.contracts.Class.{the_type}
use Rattle.format_read.specs.declared.Class.{Class}
use Rattle.format_read.specs.declared.Class.TheVariants.{Zero, Digit, LineEnd, Comma, Colon, Keep, Also, Other}
use Rattle.format_read.specs.Number.{class_number, is_class}
use Rattle.format_read.proofs.classes.class_from.Goals as goal

-- Classes are compared by their places among the variants, which are their numbers.
place_is : (kind : Class) → tag_of the_type kind ≡ class_number kind
unfolding class_number
place_is Zero = refl
place_is Digit = refl
place_is LineEnd = refl
place_is Comma = refl
place_is Colon = refl
place_is Keep = refl
place_is Also = refl
place_is Other = refl

pub returns-then-at-text : goal.returns-then-at-text
unfolding is_class
returns-then-at-text c =
    let a = c.args in
    c.eq.ensures
    ∙ ap₂ eqb (place_is _) (place_is _)
    ∙ ap (λ k. eqb (class_number k) (class_number a.kind)) c.class_of.ensures
    ∙ sym (simp (lt-ltb _ _ c.if-at-text.true))

pub returns-else-at-text : goal.returns-else-at-text
unfolding is_class
returns-else-at-text c =
    let e = le-ltb _ _ c.if-at-text.false in
    simp e
