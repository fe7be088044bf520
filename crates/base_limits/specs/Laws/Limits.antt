-- The limits are the papers' (document 01; document 02, No. 2, No. 6 and No. 8), and the digit limits follow from them: a price and an amount at the limit, and the largest
-- cost and bound that a plan can have, are written with just so many digits.
use Rattle.std.specs.Prelude.{◌*◌, ◌≤◌, ◌≡◌, refl}
use Rattle.std.proofs.Common.{arith}
use Rattle.base_limits.specs.Limits.{max_vertices, max_edges, max_weight, max_value, group_numbers, max_pairs, value_bytes, member_bytes, record_bytes, max_duals, count_digits, group_digits, endpoint_digits, weight_digits, also_digits, figure_digits, value_digits, longest_dual, dual_room, survey_room, HasDigits}

-- ---- document 01, and document 02, No. 2

pub edge_limit : max_edges ≡ 2048
edge_limit = refl

pub endpoint_digits_law : endpoint_digits ≡ 3
endpoint_digits_law = refl

pub also_digits_law : also_digits ≡ 3
also_digits_law = refl

-- What the programs `plan` and `why` read of a text.
pub survey_room_law : survey_room ≡ 65536
survey_room_law = refl

-- ---- document 02, No. 6

pub weight_limit : max_weight ≡ 100000000
weight_limit = refl

pub value_limit : max_value ≡ 200000000
value_limit = refl

pub weight_digits_law : weight_digits ≡ 9
weight_digits_law = refl

pub count_digits_law : count_digits ≡ 7
count_digits_law = refl

pub group_digits_law : group_digits ≡ 7
group_digits_law = refl

-- ---- document 02, No. 8

pub vertex_limit : max_vertices ≡ 448
vertex_limit = refl

pub dual_limit : max_duals ≡ 895
dual_limit = refl

pub record_bytes_law : record_bytes ≡ 64
record_bytes_law = refl

pub value_bytes_law : value_bytes ≡ 8
value_bytes_law = refl

pub member_bytes_law : member_bytes ≡ 56
member_bytes_law = refl

-- Every vertex has its bit, and every bit its vertex.
pub member_bits : 8 * member_bytes ≡ max_vertices
member_bits = refl

-- Group numbers and pairs stay as they were.
pub group_numbers_law : group_numbers ≡ 256
group_numbers_law = refl

pub pair_limit : max_pairs ≡ 256
pair_limit = refl

pub longest_line : longest_dual ≡ 1708
longest_line = refl

pub line_fits : longest_dual ≤ dual_room
line_fits = omega arith

-- A buffer for every printed line.
pub dual_room_law : dual_room ≡ 2048
dual_room_law = refl

-- ---- what has so many digits

pub digits_of_weight : HasDigits max_weight weight_digits
digits_of_weight = record { enough = omega arith; least = omega arith }

pub digits_of_value : HasDigits max_value value_digits
digits_of_value = record { enough = omega arith; least = omega arith }

-- All tracks kept, each at the highest price.
pub digits_of_cost : HasDigits (max_edges * max_weight) figure_digits
digits_of_cost = record { enough = omega arith; least = omega arith }

-- As many moats as there can be, each with the largest amount.
pub digits_of_bound : HasDigits (max_duals * max_value) figure_digits
digits_of_bound = record { enough = omega arith; least = omega arith }
