use Rattle.std.proofs.Common.{map, arith}
use Rattle.vecfp.proofs.Alu.{lanes-4, lanes-10, lanes-11, lanes-12}
use Rattle.vecfp.proofs.by_mode.Goals as goal

pub returns-in-4 : goal.returns-in-4
returns-in-4 g c =
    let a = c.args in
    let p = g.T.Lane.bits in
    lanes-4 g.T.Pattern.format g.row.N c.requires.1 a.mode (map p a.x.now) (map p a.y.now) (map p a.z.now) c.in-4.is c.each.ensures

pub returns-in-10 : goal.returns-in-10
returns-in-10 g c =
    let a = c.args in
    let p = g.T.Lane.bits in
    lanes-10 g.T.Pattern.format g.row.N c.requires.1 a.mode (map p a.x.now) (map p a.y.now) (map p a.z.now) (λ e. omega (arith, e, c.in-10.is)) c.in-10.is
    c.each-in-10.ensures

pub returns-in-11 : goal.returns-in-11
returns-in-11 g c =
    let a = c.args in
    let p = g.T.Lane.bits in
    lanes-11 g.T.Pattern.format g.row.N c.requires.1 a.mode (map p a.x.now) (map p a.y.now) (map p a.z.now) (λ e. omega (arith, e, c.in-11.is))
    (λ e. omega (arith, e, c.in-11.is)) c.in-11.is c.each-in-11.ensures

pub returns-in_default : goal.returns-in_default
returns-in_default g c =
    let a = c.args in
    let p = g.T.Lane.bits in
    lanes-12 g.T.Pattern.format g.row.N c.requires.1 a.mode (map p a.x.now) (map p a.y.now) (map p a.z.now) (λ e. omega (arith, e)) (λ e. omega (arith, e))
    (λ e. omega (arith, e)) c.each-in_default.ensures
