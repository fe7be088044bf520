-- A reason of each kind, by computation.
use Rattle.std.specs.Prelude.{◌≡◌, refl, [], ◌∷◌}
use Rattle.format_write.specs.Key.{ascii, track_key, mark_key, group_key, from_key, to_key, route_key, round_key}
use Rattle.format_write.specs.Decimal.{digits_within, decimal}
use Rattle.format_write.specs.Text.{line_of, listed}
use Rattle.format_why.specs.ReasonText.{route_line, kept_text, mark_text, reason_text}

pub kept_printed : reason_text 4 2 3 2 17 0 (9 ∷ 4 ∷ 10 ∷ []) ≡ ascii "track=4\nmark=2\ngroup=3\nfrom=2\nto=17\nroute=9,4,10\n"
unfolding track_key mark_key group_key from_key to_key route_key digits_within decimal line_of listed route_line kept_text mark_text reason_text
kept_printed = refl

pub dropped_printed : reason_text 3 1 0 0 0 0 [] ≡ ascii "track=3\nmark=1\n"
unfolding track_key mark_key digits_within decimal line_of mark_text reason_text
dropped_printed = refl

pub unpicked_printed : reason_text 5 0 0 0 0 2 [] ≡ ascii "track=5\nmark=0\nround=2\n"
unfolding track_key mark_key round_key digits_within decimal line_of mark_text reason_text
unpicked_printed = refl
