-- `home_at` meets its contract: from the table, or by the search.
use Rattle.survey_lists.proofs.Laws.Room.{home_read}
use Rattle.survey_lists.proofs.pour.home_at.Goals as goal

pub returns-then-v-lt-MAX_VERTICES : goal.returns-then-v-lt-MAX_VERTICES
returns-then-v-lt-MAX_VERTICES c = home_read _ c.requires c.if-v-lt-MAX_VERTICES.true c.at.ensures

pub returns : goal.returns
returns c = c.home.ensures
