-- Edge lines refuse with 16 alone.
use Rattle.std.specs.Prelude.{ℕ, zero, suc, ◌+◌, ◌≡◌, List}
use Rattle.base_limits.specs.Limits.{endpoint_digits, weight_digits}
use Rattle.format_write.specs.Key.{link_key, comma, newline}
use Rattle.format_read.specs.Step.{Step, found, refused, ◌then◌}
use Rattle.format_read.specs.Lines.{following, lines_from}
use Rattle.format_read.proofs.Laws.OnlyMalformed.{OnlyMalformed, only_found, only_then, only_fixed, only_number_to}
use Rattle.format_survey.specs.Line.{Edge, edge_line}

only_edge : (t : List ℕ) (e at : ℕ) → OnlyMalformed (edge_line t e at)
unfolding edge_line
only_edge t e at =
    only_then _ _ (only_fixed link_key t at) (λ z a.
    only_then _ _ (only_number_to endpoint_digits comma t a) (λ u b.
    only_then _ _ (only_number_to endpoint_digits comma t b) (λ v c.
    only_then _ _ (only_number_to weight_digits newline t c) (λ w d. only_found _ d))))

pub only_edges : (t : List ℕ) (count i at : ℕ) → OnlyMalformed (lines_from (edge_line t) count i at).end
unfolding lines_from following
only_edges t zero i at = only_found 0 at
only_edges t (suc count) i at = by_line (edge_line t i at) (only_edge t i at) (λ q. only_edges t count (i + 1) q)
  where
    by_line : (s : Step Edge) → OnlyMalformed s → ((q : ℕ) → OnlyMalformed (lines_from (edge_line t) count (i + 1) q).end) → OnlyMalformed (following s (λ a next. lines_from (edge_line t) count (i + 1) next)).end
    by_line (found a q) h g = g q
    by_line (refused n q) h g = record { is = λ x p e. h.is x p (same e) }
      where
        same : {x p : ℕ} → ◌≡◌ {A = Step ℕ} (refused n q) (refused x p) → ◌≡◌ {A = Step Edge} (refused n q) (refused x p)
        same {x} {p} e = let a : n ≡ x = cc in let b : q ≡ p = cc in cc
