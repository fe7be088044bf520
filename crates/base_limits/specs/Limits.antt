-- The limits of document 01 ('Refused surveys and plans', 'What a plan holds', 'Survey text and printed plan'), each in this one place, with
-- what follows from them. src/lib.rt has the same numbers for the code.
use Rattle.std.specs.Prelude.{ℕ, ◌+◌, ◌*◌, ◌-◌, ◌/◌, ◌^◌, ◌<◌, ◌≤◌}

-- junctions, at most
abbrev pub max_vertices : ℕ
max_vertices = 448

-- tracks, at most
abbrev pub max_edges : ℕ
max_edges = 2048

-- a track's price, at most
abbrev pub max_weight : ℕ
max_weight = 100000000

-- a moat's amount, at most, in half units
abbrev pub max_value : ℕ
max_value = 2 * max_weight

-- group numbers lie below this; 0 means no group
abbrev pub group_numbers : ℕ
group_numbers = 256

-- pairs (v, g) of a junction and a further group, at most
abbrev pub max_pairs : ℕ
max_pairs = 256

-- bytes of a moat record: its amount, its members, the whole
abbrev pub value_bytes : ℕ
value_bytes = 8

abbrev pub member_bytes : ℕ
member_bytes = max_vertices / 8

abbrev pub record_bytes : ℕ
record_bytes = value_bytes + member_bytes

-- moats that a survey of n junctions can have, and moats, at most
abbrev pub duals_for : ℕ → ℕ
duals_for n = 2 * n - 1

abbrev pub max_duals : ℕ
max_duals = duals_for max_vertices

-- the bytes of so many records
abbrev pub records_room : ℕ
records_room = record_bytes * max_duals

-- tracks of a route, which visits no junction twice, at most
abbrev pub max_route : ℕ
max_route = max_vertices - 1

-- digits of a number in a survey's text, at most: a count, a group, an end, a price, a number of an also line
abbrev pub count_digits : ℕ
count_digits = 7

abbrev pub group_digits : ℕ
group_digits = 7

abbrev pub endpoint_digits : ℕ
endpoint_digits = 3

abbrev pub weight_digits : ℕ
weight_digits = 9

abbrev pub also_digits : ℕ
also_digits = 3

-- No number up to the largest has more decimal digits, and the largest has so many.
pub record HasDigits (largest digits : ℕ) : Type 0 where
  pub enough : largest < 10 ^ digits
  pub least : 10 ^ digits ≤ 10 * largest

-- digits of a number in a printed plan, at most (Laws/Limits has why): a figure (sites, cost, bound, rounds), a kept track, an amount, a member
abbrev pub figure_digits : ℕ
figure_digits = 12

abbrev pub kept_digits : ℕ
kept_digits = 7

abbrev pub value_digits : ℕ
value_digits = 9

abbrev pub member_digits : ℕ
member_digits = 7

-- no number of a text has more digits
abbrev pub max_digits : ℕ
max_digits = figure_digits

-- digits of a 64-bit number, at most
abbrev pub word_digits : ℕ
word_digits = 20

-- bytes of all members with commas between, for 100 to 1,000 junctions: 10 of one digit, 90 of two, the others of three
abbrev pub longest_members : ℕ
longest_members = 4 * max_vertices - 111

-- bytes of the longest moat line: 7 fixed, the amount, all members
abbrev pub longest_dual : ℕ
longest_dual = 7 + word_digits + longest_members

-- bytes that hold every moat line
abbrev pub dual_room : ℕ
dual_room = 2048

-- bytes that hold the lines of the four counts, which have 24 bytes of keys
abbrev pub counts_room : ℕ
counts_room = 24 + 4 * (word_digits + 1)

-- bytes that hold the line of a kept track: 5 of its key, 4 digits, the newline
abbrev pub kept_room : ℕ
kept_room = 10

-- bytes that hold every plan of so many tracks and moats, and every plan within the limits
abbrev pub plan_room_for : (edges duals : ℕ) → ℕ
plan_room_for edges duals = counts_room + kept_room * edges + longest_dual * duals

abbrev pub plan_room : ℕ
plan_room = plan_room_for max_edges max_duals

-- bytes that hold every refusal: two numbers, and 16 bytes of keys and newlines
abbrev pub refusal_room : ℕ
refusal_room = 16 + 2 * word_digits

-- bytes that hold every reason: five numbers, 31 bytes of keys and six ends of lines, and a route with four digits and a comma for each track
abbrev pub why_room : ℕ
why_room = 37 + 5 * word_digits + 5 * max_route

-- bytes that the programs `plan` and `why` read, at most: every survey's text
abbrev pub survey_room : ℕ
survey_room = 65536

-- bytes that the program `verify` reads, at most: every survey's text with a plan's behind it
abbrev pub verify_room : ℕ
verify_room = 2097152
