-- `parted_list` meets its contract: the place of what is found.
use Rattle.why_core.specs.Laws.PartedFound.{no_place, the_place}
use Rattle.why_core.proofs.parted.parted_list.Goals as goal

pub returns-in-Fine : goal.returns-in-Fine
returns-in-Fine c = no_place c.group_refusal-found.ensures c.in-Fine.is

pub returns-in-Refused : goal.returns-in-Refused
returns-in-Refused c = the_place c.group_refusal-found.ensures c.in-Refused.is
