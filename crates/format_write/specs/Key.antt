-- The keys and separators of the texts (document 01, 'Survey text and printed plan'), as bytes. src/lib.rt has the same keys for the code.
use Rattle.std.specs.Prelude.{ℕ, List, [], ◌∷◌}
use Prim.Native.Char.{code}
use Prim.Native.String.{String, [] as empty, ◌∷◌ as ◌then◌}

abbrev pub ascii : String → List ℕ
ascii empty = []
ascii (◌then◌ c text) = code c ∷ ascii text

-- A survey's text.
abbrev pub nodes_key : List ℕ
nodes_key = ascii "nodes="

abbrev pub links_key : List ℕ
links_key = ascii "links="

abbrev pub node_key : List ℕ
node_key = ascii "node="

abbrev pub also_key : List ℕ
also_key = ascii "also="

abbrev pub link_key : List ℕ
link_key = ascii "link="

-- A printed plan.
unfoldable pub terminals_key : List ℕ
terminals_key = ascii "sites="

unfoldable pub cost_key : List ℕ
cost_key = ascii "cost="

unfoldable pub bound_key : List ℕ
bound_key = ascii "bound="

unfoldable pub rounds_key : List ℕ
rounds_key = ascii "rounds="

unfoldable pub kept_key : List ℕ
kept_key = ascii "keep="

unfoldable pub dual_key : List ℕ
dual_key = ascii "moat="

-- A printed reason.
unfoldable pub track_key : List ℕ
track_key = ascii "track="

unfoldable pub mark_key : List ℕ
mark_key = ascii "mark="

unfoldable pub group_key : List ℕ
group_key = ascii "group="

unfoldable pub from_key : List ℕ
from_key = ascii "from="

unfoldable pub to_key : List ℕ
to_key = ascii "to="

unfoldable pub route_key : List ℕ
route_key = ascii "route="

unfoldable pub round_key : List ℕ
round_key = ascii "round="

-- A printed refusal.
unfoldable pub refused_key : List ℕ
refused_key = ascii "refused="

unfoldable pub place_key : List ℕ
place_key = ascii "place="

-- What stands behind a value, between values, at the end of a line.
abbrev pub colon : ℕ
colon = code ":"

abbrev pub comma : ℕ
comma = code ","

abbrev pub newline : ℕ
newline = code "\n"
