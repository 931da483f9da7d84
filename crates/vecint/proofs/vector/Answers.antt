use Rattle.std.proofs.Common.{sym, ◌∙◌}
use Rattle.vecint.proofs.vector.Goals as goal

pub reduce_vector-requires : goal.reduce_vector-requires
reduce_vector-requires c = (c.requires.0, c.requires.1, sym c.reduces.ensures ∙ c.if-reduces.true, c.requires.2)

pub alu_vector-requires : goal.alu_vector-requires
alu_vector-requires c = (c.requires.0, c.requires.1, sym c.reduces.ensures ∙ c.if-reduces.false, c.requires.2)
