use Rattle.tl_script.proofs.GeometryLemmas.{made, refused}
use Rattle.tl_script.proofs.numbers.geometry.Goals as goal

pub returns-in-Ok : goal.returns-in-Ok
returns-in-Ok c = made c.args.numbers c.in-Ok.geometry c.in-Ok.ensures.made.0 c.in-Ok.ensures.made.1

pub returns-in-Err : goal.returns-in-Err
returns-in-Err c = refused c.args.numbers c.in-Err.cause c.in-Err.ensures.refused
