use Rattle.std.proofs.Common.{rules}
use Rattle.number.proofs.Conversions.{whole_is}
use Rattle.number.proofs.float.whole_part.Goals as goal

pub returns : goal.returns
returns c =
    whole_is c.args.x c.saturating_f32_to_i64.result c.try_from.result c.map_err.result
    c.if-is_nan.ensures.value
    c.saturating_f32_to_i64.ensures
    c.try_from.ensures
    (λ b s h. search rules)
    c.map_err.ensures.cases
