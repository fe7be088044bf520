-- `run`: what is printed is a part of the buffer, by the contract of `print_bytes`.
use Rattle.std.proofs.Common.{rules, ◌≡◌, ℕ, ◌≤◌, List, length, sym, subst}
use Rattle.text_season.specs.Added.{printed_bytes}
use Rattle.text_season.specs.Laws.Print.{bytes_le}
use Rattle.season.proofs.run.Goals as goal

within_buffer : (text out : List ℕ) {n : ℕ} → n ≡ printed_bytes text out → n ≤ length out
within_buffer text out h = subst (λ m. m ≤ length out) (sym h) (bytes_le text out)

pub slice_bounds-write_all-end : goal.slice_bounds-write_all-end
slice_bounds-write_all-end g c =
    let fits = within_buffer _ _ c.print_bytes-printed.ensures.value in
    search (rules, fits)
