-- What the program `stp` prints for a text (document 02, No. 5): the survey that it says as our own text, or the two lines of a refusal.
use Rattle.std.specs.Prelude.{ℕ, ◌*◌, cond, List, [], ltb, length, replicate, take}
use Rattle.base_limits.specs.Limits.{max_vertices, max_edges, survey_room}
use Rattle.base_limits.specs.Verdict.{Outcome, refusal, answer}
use Rattle.format_write.specs.Text.{refusal_text}
use Rattle.format_survey.specs.Render.{render}
use Rattle.format_stp.specs.StpReading.{StpContent, stp_reading}

-- Bytes of a text that is read, at most: a comment of 1 MiB, and a survey's room for the rest.
abbrev pub stp_room : ℕ
stp_room = 17 * survey_room

-- Of a longer text, of whose first stp_room bytes reading says this: 'the earliest finding wins', so a refusal before their end stands; where
-- reading reaches their end the text is too long, 7.
unfoldable pub before_cut : {A : Type 0} → Outcome A → Outcome A
before_cut (refusal number place) = cond (ltb place stp_room) (refusal number place) (refusal 7 0)
before_cut (answer x) = refusal 7 0

unfoldable pub judged : {A : Type 0} → (length : ℕ) → Outcome A → Outcome A
judged length o = cond (ltb stp_room length) (before_cut o) o

-- What a text says, or the refusal, where there is room for every survey within the limits.
unfoldable pub stp_read : List ℕ → Outcome StpContent
stp_read t =
    judged (length t)
    (stp_reading (take stp_room t) (replicate max_vertices 0) (replicate max_edges 0) (replicate max_edges 0) (replicate max_edges 0))

-- What is printed: the survey's text, or 'for a refusal two lines'.
unfoldable pub stp_text : Outcome StpContent → List ℕ
stp_text (refusal number place) = refusal_text number place
stp_text (answer x) = render x.groups [] x.lines

unfoldable pub stp_output : List ℕ → List ℕ
stp_output t = stp_text (stp_read t)
