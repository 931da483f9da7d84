use Rattle.std.proofs.Common.{map, ◌∙◌}
use Rattle.number.specs.Bytes.{table}
use Rattle.vecfp.proofs.Alu.{results-forced, results-made}
use Rattle.vecfp.proofs.results.Goals as goal

pub returns-then-vecfp_overrides : goal.returns-then-vecfp_overrides
returns-then-vecfp_overrides g c =
    let a = c.args in
    let p = g.T.Lane.bits in
    results-forced g.T.Pattern.format (map p a.x.now) (map p a.y.now) (map p a.z.now) a.generation a.op c.vecfp_overrides.ensures c.if-vecfp_overrides.true
    (c.requires.1 ∙ (λ i. table (λ l. 0) 0 (c.requires.0.1 i)))

pub returns : goal.returns
returns g c =
    let a = c.args in
    let p = g.T.Lane.bits in
    results-made g.T.Pattern.format (map p a.x.now) (map p a.y.now) (map p a.z.now) a.generation a.op c.vecfp_overrides.ensures c.alu_mode.result
    c.if-vecfp_overrides.false c.alu_mode.ensures.0 c.by_mode.ensures
