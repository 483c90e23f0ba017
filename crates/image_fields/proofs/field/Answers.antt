use Rattle.image_fields.proofs.Numbers.{field-short, field-large, field-good}
use Rattle.image_fields.proofs.Answers.{is-number_or, wrong-number_or}
use Rattle.image_fields.proofs.field.Goals as goal

pub returns-then-room-k : goal.returns-then-room-k
returns-then-room-k g c = λ n. wrong-number_or c.args.fault (field-short _ _ _ _ _ c.room.ensures c.if-room-k.true)

pub returns-then-n-limit : goal.returns-then-n-limit
returns-then-n-limit g c = λ n. is-number_or c.args.fault (field-good _ _ _ _ _ c.room.ensures c.if-room-k.false c.number_in-n.ensures c.if-n-limit.true)

pub returns-else-n-limit : goal.returns-else-n-limit
returns-else-n-limit g c = λ n. wrong-number_or c.args.fault (field-large _ _ _ _ _ c.room.ensures c.if-room-k.false c.number_in-n.ensures c.if-n-limit.false)
