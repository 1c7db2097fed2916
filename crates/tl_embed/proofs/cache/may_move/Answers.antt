use denote.Exit.{no}
use denote.Param.Send.{arg_send, param_send}
use Rattle.tl_embed.proofs.Sends.{cache_send}
use Rattle.tl_embed.proofs.cache.may_move.Goals as goal

-- each part of a cache may
pub crosses-requires-send-T : goal.crosses-requires-send-T
crosses-requires-send-T c κs = param_send 0 _ (arg_send _ no _ cache_send)
