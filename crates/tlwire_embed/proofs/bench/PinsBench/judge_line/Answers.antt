use Rattle.std.proofs.Common.{inl, rules}
use Rattle.tlwire_embed.proofs.bench.PinsBench.judge_line.Goals as goal

pub returns-in-Ok-None : goal.returns-in-Ok-None
returns-in-Ok-None c =
    inl (record {
      tells = c.state_told.ensures;
      lawful = c.requires;
      follows = c.in-Ok-None.ensures.taken (search rules);
    })
