-- What reading an STP text promises (document 02, No. 5), in the words of the grammar: 'a text that escapes 1, 3 and 7 is accepted exactly if it is in the
-- subset, and what is read is what it says'; 1, 3 and 7 exactly if the text begins so; 20 for every other text, 'its place found like that of 16'.
use Rattle.std.specs.Prelude.{ℕ, ◌+◌, ◌≤◌, ◌<◌, List, ◌++◌, ◌↔◌, ◌≡◌, length, take, drop}
use Rattle.base_limits.specs.Limits.{max_vertices, max_edges}
use Rattle.base_limits.specs.Verdict.{Outcome, refusal, answer}
use Rattle.format_read.specs.Language.{Each}
use Rattle.format_survey.specs.Line.{Lengths, SurveyCounts, firsts_of, seconds_of, weights_of}
use Rattle.format_stp.specs.Beginning.{stp_lent, StpVerticesOut, StpEdgesOver, StpShort, StpEscapes}
use Rattle.format_stp.specs.Grammar.{StpText, IsStp}
use Rattle.format_stp.specs.StpReading.{StpContent}

-- Counts that escape 1, 3 and 7, for lent buffers of these lengths.
pub record StpFits (groups firsts seconds weights : List ℕ) (x : StpContent) : Type 0 where
  pub some : 0 < x.vertices
  pub most_vertices : x.vertices ≤ max_vertices
  pub for_groups : x.vertices ≤ length groups
  pub most_edges : x.edges ≤ max_edges
  pub for_firsts : x.edges ≤ length firsts
  pub for_seconds : x.edges ≤ length seconds
  pub for_weights : x.edges ≤ length weights

-- The bytes before the place of 20 begin a text of the subset, and bytes end it.
pub record StpBegins (t : List ℕ) (p : ℕ) : Type 0 where
  pub inside : p ≤ length t
  pub rest : List ℕ
  pub bytes : Each (λ b. b < 256) rest
  pub is : IsStp (take p t ++ rest)

-- The place of 20: 'the first offset whose byte no text of the subset has after the bytes before it', or the text's length.
pub record StpMalformedAt (t : List ℕ) (p : ℕ) : Type 0 where
  pub begins : StpBegins t p
  pub stops : p < length t → (rest : List ℕ) → IsStp (take (p + 1) t ++ rest) → ⊥
  pub outside : IsStp t → ⊥

-- The numbers of the refusals; 20 alone has a place of its own.
pub data StpGives (n p : ℕ) : Type 0 where
  gives_1 : n ≡ 1 → p ≡ 0 → StpGives n p
  gives_3 : n ≡ 3 → p ≡ 0 → StpGives n p
  gives_7 : n ≡ 7 → p ≡ 0 → StpGives n p
  gives_20 : n ≡ 20 → StpGives n p

-- Four buffers.
pub record StpBuffers : Type 0 where
  pub groups : List ℕ
  pub firsts : List ℕ
  pub seconds : List ℕ
  pub weights : List ℕ

abbrev pub stp_buffers : (groups firsts seconds weights : List ℕ) → StpBuffers
stp_buffers groups firsts seconds weights = record { groups = groups; firsts = firsts; seconds = seconds; weights = weights }

abbrev pub stp_lengths : StpBuffers → Lengths
stp_lengths b = stp_lent b.groups b.firsts b.seconds b.weights

-- What a buffer holds where these values are read into it.
abbrev pub stp_filled : (values old : List ℕ) → List ℕ
stp_filled values old = values ++ drop (length values) old

-- The answer is n and m of x, and the buffers hold its survey.
pub record StpSays (x : StpContent) (old : StpBuffers) (r : Outcome SurveyCounts) (new : StpBuffers) : Type 0 where
  pub counts : r ≡ answer (record { vertices = x.vertices; edges = x.edges })
  pub groups : new.groups ≡ stp_filled x.groups old.groups
  pub firsts : new.firsts ≡ stp_filled (firsts_of x.lines) old.firsts
  pub seconds : new.seconds ≡ stp_filled (seconds_of x.lines) old.seconds
  pub weights : new.weights ≡ stp_filled (weights_of x.lines) old.weights

-- A survey is answered: the text is of the subset, and what is read is what it says.
pub record StpAccepted (t : List ℕ) (old : StpBuffers) (r : Outcome SurveyCounts) (new : StpBuffers) : Type 0 where
  pub content : StpContent
  pub text : StpText content t
  pub fits : StpFits old.groups old.firsts old.seconds old.weights content
  pub says : StpSays content old r new

-- The answer and the buffers, before and after.
pub record StpPromises (t : List ℕ) (old : StpBuffers) (r : Outcome SurveyCounts) (new : StpBuffers) : Type 0 where
  pub accepted : (c : SurveyCounts) → r ≡ answer c → StpAccepted t old r new
  pub accepts : (x : StpContent) → StpText x t → StpEscapes (stp_lengths old) t → StpSays x old r new
  pub refuses : (IsStp t → ⊥) → StpEscapes (stp_lengths old) t → (p : ℕ) × (r ≡ refusal 20 p)
  pub one : (r ≡ refusal 1 0) ↔ StpVerticesOut t
  pub three : (r ≡ refusal 3 0) ↔ StpEdgesOver (stp_lengths old) t
  pub seven : (r ≡ refusal 7 0) ↔ StpShort (stp_lengths old) t
  pub malformed : (p : ℕ) → r ≡ refusal 20 p → StpMalformedAt t p
  pub gives : (n p : ℕ) → r ≡ refusal n p → StpGives n p
  pub kept : (n p : ℕ) → r ≡ refusal n p → new ≡ old
