-- What a call of a client finds before it changes anything. No public clause cites this module.
use Rattle.std.specs.Prelude.{◌≡◌, ℕ, List, ◌∷◌, Option}
use Rattle.tl_types.specs.Message.{probe_answer}
use Rattle.tl_types.specs.Permission.{grant_perm, probe_perm}
use Rattle.tl_types.specs.declared.channel.Channel.{Channel}
use Rattle.tl_types.specs.declared.channel.Channel.TheVariants.{B, D}
use Rattle.tl_types.specs.declared.message.Body.TheVariants.{ProbeBlock, Downward as b_Downward}
use Rattle.tl_types.specs.declared.message.Downward.TheVariants.{Grant}
use Rattle.tl_types.specs.declared.message.Message.{Message}
use Rattle.tl_types.specs.declared.message.ProbeAnswer.{ProbeAnswer}
use Rattle.tl_types.specs.declared.permission.GrantCap.{GrantCap}
use Rattle.tl_types.specs.declared.permission.Perm.{Perm}
use Rattle.tl_types.specs.declared.permission.ProbeCap.{ProbeCap}
use Rattle.tl_types.specs.declared.wait.Awaited.{Awaited}
use Rattle.tl_protocol.specs.Client.{bytes_or}
use Rattle.tl_protocol.specs.Copy.{bytes_of, clean_copy, dirty_bytes, reduced}
use Rattle.tl_protocol.specs.declared.copy.CachedCopy.{CachedCopy}
use Rattle.tl_bank_spec.specs.Channels.{lane_at}
use Rattle.tl_bank_spec.specs.View.{View, client_at, perm_at}

-- a message is the first that waits on a channel of a client
abbrev pub IsFirstOn : View → ℕ → Channel → Message → Type 0
IsFirstOn v client channel message = (rest : List Message) × ((lane_at v client channel).messages ≡ message ∷ rest)

-- a Probe of a block is first on its way to a client: what its copy is then reduced to, what it waits for, what it had, and the answer
pub record FindsProbe (v : View) (client block : ℕ) (copy : CachedCopy) (wait : Awaited) (before : Perm) (answer : ProbeAnswer) : Type 0 where
  pub cap : ProbeCap
  pub first : IsFirstOn v client B (record { block = block; body = ProbeBlock cap })
  pub copy_is : copy ≡ reduced (client_at v client block).held (probe_perm cap)
  pub wait_is : wait ≡ (client_at v client block).wait
  pub before_is : before ≡ perm_at v client block
  pub answer_is : answer ≡ probe_answer (perm_at v client block) cap (dirty_bytes (client_at v client block).held)

-- a Grant of a block is first on its way to a client: what the client had, and the copy that it makes of that
pub record FindsGrant (v : View) (client block : ℕ) (before : Perm) (copy : CachedCopy) : Type 0 where
  pub cap : GrantCap
  pub bytes : Option (List ℕ)
  pub first : IsFirstOn v client D (record { block = block; body = b_Downward (Grant cap bytes) })
  pub before_is : before ≡ perm_at v client block
  pub copy_is : copy ≡ clean_copy (grant_perm cap) (bytes_or bytes (bytes_of (client_at v client block).held))
