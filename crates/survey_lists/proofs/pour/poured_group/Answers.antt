-- `poured_group` meets its contract: the label of the home, which is a byte.
use native.Mathlib.Omega.{arith}
use mathlib.Core.Path.{◌≡◌, ◌∙◌}
use Rattle.survey_core.specs.Lists.{lists_from}
use Rattle.survey_lists.specs.Pouring.{poured}
use Rattle.survey_core.proofs.Laws.Pairs.{own_read}
use Rattle.survey_lists.proofs.Laws.Pouring.{poured_below}
use Rattle.survey_lists.proofs.Laws.Room.{label_read}
use Rattle.survey_lists.proofs.pour.poured_group.Goals as goal

-- The label that was read.
read : (c : goal.After-at) → c.at.result ≡ poured (lists_from c.args.groups.now c.args.owners.now c.args.others.now) c.args.v
read c =
    own_read c.args.labels.now (c.from.ensures ∙ c.home_at-list.ensures) c.at.ensures
    ∙ label_read
    (lists_from c.args.groups.now c.args.owners.now c.args.others.now)
    (λ v. omega (arith, c.type_inv.groups v))
    (λ i. omega (arith, c.type_inv.others i))
    c.requires.labels_value
    c.args.v

pub home_at-list-requires : goal.home_at-list-requires
home_at-list-requires c = c.requires.homes_value

pub overflow_cast-result : goal.overflow_cast-result
overflow_cast-result c =
    let b =
    poured_below
    (lists_from c.args.groups.now c.args.owners.now c.args.others.now)
    (λ v. omega (arith, c.type_inv.groups v))
    (λ i. omega (arith, c.type_inv.others i))
    c.args.v in
    let e = read c in
    omega arith

pub returns : goal.returns
returns c = read c
