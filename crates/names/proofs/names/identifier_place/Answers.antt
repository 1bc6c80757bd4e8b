use Rattle.names.proofs.PartLaws.{identifier_of_none, identifier_not_whole, identifier_outside, identifier_inside}
use Rattle.names.proofs.names.identifier_place.Goals as goal
use Rattle.names.proofs.names.identifier_place.Goals.{then-v-eq0-via-then-v-eq0, then-v-eq0-via-else-v-eq0+then-v-table}

pub returns-then-v-eq0 : goal.returns-then-v-eq0
returns-then-v-eq0 c =
    elim c.then-v-eq0.branch [
      | then-v-eq0-via-then-v-eq0 w ↦ identifier_of_none w.if-v-eq0.true
      | then-v-eq0-via-else-v-eq0+then-v-table w ↦ identifier_not_whole w.if-v-eq0.false w.if-v-table.true
    ]

pub returns-then-start-len : goal.returns-then-start-len
returns-then-start-len c =
    identifier_outside c.if-v-eq0.false c.if-v-table.false c.field-start.ensures.0 c.field-len.ensures.0 c.if-start-len.true

pub returns : goal.returns
returns c =
    identifier_inside c.if-v-eq0.false c.if-v-table.false c.field-start.ensures.0 c.field-len.ensures.0 c.if-start-len.false
