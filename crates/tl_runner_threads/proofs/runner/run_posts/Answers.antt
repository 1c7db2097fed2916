use denote.Exit.{no}
use denote.Param.Send.{arg_sync, param_sync}
use Rattle.tl_runner_threads.proofs.Sends.{shared_sync}
use Rattle.tl_runner_threads.proofs.runner.run_posts.Goals as goal

pub run_threads-requires-sync-S : goal.run_threads-requires-sync-S
run_threads-requires-sync-S g c κs within = param_sync 1 _ (arg_sync _ no _ (shared_sync _ _ c.type_bounds.sync-G))
