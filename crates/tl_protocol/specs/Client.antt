-- A client on one block: what is pending at it, what it may do, and what that leaves (TileLink 1.8, section 9).
use Rattle.std.specs.Prelude.{◌≡◌, ◌≢◌, ℕ, ◌+◌, ◌-◌, false, List, [], ◌∷◌, ◌++◌, drop, Option, Some, None}
use Rattle.std.specs.List.{list_any}
use Rattle.tl_protocol.specs.Queue.{HasFirst}
use Rattle.tl_types.specs.Permission.{grow_from, prune_from, prune_to, probe_perm, grant_perm}
use Rattle.tl_types.specs.Message.{probe_answer, surrender, upward_to, upward_bytes, is_probe_ack, is_grant}
use Rattle.tl_types.specs.declared.permission.Perm.{Perm}
use Rattle.tl_types.specs.declared.permission.Perm.TheVariants.{None as p_None, Branch, Tip}
use Rattle.tl_types.specs.declared.permission.Grow.{Grow}
use Rattle.tl_types.specs.declared.permission.Prune.{Prune}
use Rattle.tl_types.specs.declared.permission.ProbeCap.{ProbeCap}
use Rattle.tl_types.specs.declared.permission.GrantCap.{GrantCap}
use Rattle.tl_protocol.specs.Copy.{perm_of, bytes_of, dirty_bytes, clean_copy, reduced, stored_in}
use Rattle.tl_protocol.specs.declared.copy.CachedCopy.TheVariants.{Absent}
use Rattle.tl_types.specs.declared.wait.Awaited.TheVariants.{Nothing, ForGrant, ForReleaseAck}
use Rattle.tl_types.specs.declared.message.Upward.{Upward}
use Rattle.tl_types.specs.declared.message.Upward.TheVariants.{ProbeAck, Release}
use Rattle.tl_types.specs.declared.message.Downward.{Downward}
use Rattle.tl_types.specs.declared.message.Downward.TheVariants.{Grant, ReleaseAck}
use Rattle.tl_protocol.specs.declared.client.Client.{Client}

-- At reset nobody but the memory holds anything.
abbrev pub fresh_client : Client
fresh_client =
    record { held = Absent; wait = Nothing; recorded = p_None; a = []; b = []; c = []; d = []; e = 0 }

-- no Probe is on its way to the client, and no answer from it
abbrev pub NoProbePending : Client → Type 0
NoProbePending k = (k.b ≡ []) × (list_any is_probe_ack k.c ≡ false)

-- no Grant is on its way to the client, and no GrantAck from it
abbrev pub NoGrantPending : Client → Type 0
NoGrantPending k = (list_any is_grant k.d ≡ false) × (k.e ≡ 0)

-- ## What a client may do, and what it leaves

-- a client asks for more while it waits for nothing, starting from what it has
abbrev pub MaySendAcquire : Client → Grow → Type 0
MaySendAcquire k grow = (k.wait ≡ Nothing) × (perm_of k.held ≡ grow_from grow)

-- it gives up while it waits for nothing, starting from what it has
abbrev pub MaySendRelease : Client → Prune → Type 0
MaySendRelease k prune = (k.wait ≡ Nothing) × (perm_of k.held ≡ prune_from prune)

-- it answers its first Probe, but not while a Release of its own waits for the answer
abbrev pub MayAnswerProbe : Client → Type 0
MayAnswerProbe k = HasFirst k.b × (k.wait ≢ ForReleaseAck)

-- a Grant is first on D
abbrev pub MayTakeGrant : Client → Type 0
MayTakeGrant k = (cap : GrantCap) × (bytes : Option (List ℕ)) × (rest : List Downward) × (k.d ≡ Grant cap bytes ∷ rest)

-- a ReleaseAck is first on D
abbrev pub MayTakeReleaseAck : Client → Type 0
MayTakeReleaseAck k = (rest : List Downward) × (k.d ≡ ReleaseAck ∷ rest)

-- an Acquire is on A
abbrev pub MayTakeA : Client → Type 0
MayTakeA k = HasFirst k.a

-- a message is on C
abbrev pub MayTakeC : Client → Type 0
MayTakeC k = HasFirst k.c

-- a store makes the copy dirty
abbrev pub stored : Client → ℕ → List ℕ → Client
stored k offset bytes = record k { held = stored_in offset bytes k.held }

-- an Acquire goes on A, and the client waits for its Grant
abbrev pub sent_acquire : Client → Grow → Client
sent_acquire k grow = record k { a = k.a ++ grow ∷ []; wait = ForGrant }

-- the ReleaseAck is taken from D, and the client waits for nothing
abbrev pub took_release_ack : Client → Client
took_release_ack k = record k { wait = Nothing; d = drop 1 k.d }

-- a Probe goes on B
abbrev pub sent_probe : Client → ProbeCap → Client
sent_probe k cap = record k { b = k.b ++ cap ∷ [] }

-- home takes a GrantAck from E
abbrev pub took_grant_ack : Client → Client
took_grant_ack k = record k { e = k.e - 1 }

-- a Release goes on C, with the bytes of a dirty copy; the client keeps what the Release leaves, and waits for the ReleaseAck
abbrev pub released : Client → Prune → Client
released k prune =
    record k { held = reduced k.held (prune_to prune); wait = ForReleaseAck; c = k.c ++ Release (surrender prune (dirty_bytes k.held)) ∷ [] }

-- the first Probe is taken from B, and its answer goes on C, with the bytes of a dirty copy; the client keeps what the Probe leaves
abbrev pub answered : Client → List ProbeCap → Client
answered k [] = k
answered k (cap ∷ rest) =
    record k {
      held = reduced k.held (probe_perm cap);
      b = rest;
      c = k.c ++ ProbeAck (probe_answer (perm_of k.held) cap (dirty_bytes k.held)) ∷ [];
    }

-- the bytes that came along, else its own
abbrev pub bytes_or : Option (List ℕ) → List ℕ → List ℕ
bytes_or None own = own
bytes_or (Some bytes) own = bytes

-- the Grant is taken from D: the client has a clean copy, waits for nothing and sends a GrantAck on E
abbrev pub took_grant : Client → List Downward → Client
took_grant k [] = k
took_grant k (ReleaseAck ∷ rest) = k
took_grant k (Grant cap bytes ∷ rest) =
    record k { held = clean_copy (grant_perm cap) (bytes_or bytes (bytes_of k.held)); wait = Nothing; d = rest; e = k.e + 1 }

-- data goes along only where home records nothing of the client
abbrev pub grant_bytes : Perm → List ℕ → Option (List ℕ)
grant_bytes p_None bytes = Some bytes
grant_bytes Branch bytes = None
grant_bytes Tip bytes = None

-- a Grant goes on D, and home records what it gives
abbrev pub sent_grant : Client → GrantCap → List ℕ → Client
sent_grant k cap bytes = record k { recorded = grant_perm cap; d = k.d ++ Grant cap (grant_bytes k.recorded bytes) ∷ [] }

-- the bytes that the first message of C carries
abbrev pub first_bytes : List Upward → Option (List ℕ)
first_bytes [] = None
first_bytes (message ∷ rest) = upward_bytes message

-- home takes the first message of C; a Release is answered
abbrev pub took_c_from : Client → List Upward → Client
took_c_from k [] = k
took_c_from k (ProbeAck answer ∷ rest) = record k { recorded = upward_to (ProbeAck answer); c = rest }
took_c_from k (Release given ∷ rest) = record k { recorded = upward_to (Release given); c = rest; d = k.d ++ ReleaseAck ∷ [] }
