-- What a client holds of a block and waits for, as the messages at its pins tell (TileLink 1.8, section 9).
use Rattle.std.specs.Prelude.{◌≡◌, ◌≢◌, ◌%◌, ◌&&◌, not, ℕ, Bool, true, false, List, [], ◌∷◌, Option, Some, None, if◌then◌else◌}
use Rattle.tl_types.specs.Message.{probe_answer, surrender}
use Rattle.tl_types.specs.Parameters.{dirty_prune, probe_report}
use Rattle.tl_types.specs.Permission.{grant_perm, grow_from, prune_from, prune_to, report_to}
use Rattle.tl_types.specs.declared.kind.Kind.{Kind}
use Rattle.tl_types.specs.declared.kind.Kind.TheVariants as kind
use Rattle.tl_types.specs.declared.message.Body.{Body}
use Rattle.tl_types.specs.declared.message.Body.TheVariants as body
use Rattle.tl_types.specs.declared.message.Upward.TheVariants as upward
use Rattle.tl_types.specs.declared.permission.Perm.{Perm}
use Rattle.tl_types.specs.declared.permission.Perm.TheVariants.{None as p_None, Branch, Tip}
use Rattle.tl_types.specs.declared.permission.ProbeCap.{ProbeCap}
use Rattle.tl_types.specs.declared.permission.ProbeCap.TheVariants.{ToB, ToN}
use Rattle.tl_types.specs.declared.permission.Prune.{Prune}
use Rattle.tl_types.specs.declared.wait.Awaited.{Awaited}
use Rattle.tl_types.specs.declared.wait.Awaited.TheVariants.{Nothing, ForGrant, ForReleaseAck}
use Rattle.tl_protocol.specs.Access.{FitsBlock, ReadsAs}
use Rattle.tl_protocol.specs.Client.{bytes_or}
use Rattle.tl_protocol.specs.Copy.{bytes_of, clean_copy, dirty_bytes, perm_of, reduced, stored_in}
use Rattle.tl_protocol.specs.declared.copy.CachedCopy.{CachedCopy}
use Rattle.tl_protocol.specs.declared.copy.CachedCopy.TheVariants.{Absent, Readable, Writable}
use Rattle.tl_protocol.specs.declared.client.Client.{Client}
use Rattle.tl_protocol.specs.declared.shape.Shape.{Shape}
use Rattle.tlcheck_rules.specs.Differs.{DiffersFrom, IsMessage}
use Rattle.tlcheck_rules.specs.declared.entry.Shown.{Shown}
use Rattle.tlcheck_rules.specs.declared.judge.Breach.{Breach}
use Rattle.tlcheck_rules.specs.declared.judge.Breach.TheVariants.{NotPermitted, OutOfOrder, NotAsShown}
use Rattle.tlcheck_rules.specs.declared.rule.Rule.{Rule}
use Rattle.tlcheck_rules.specs.declared.rule.Rule.TheVariants as rule
use Rattle.tlwire_search.specs.declared.seen.Seen.{Seen}
use Rattle.tlwire_search.specs.declared.seen.Seen.TheVariants.{OnLink, OnMemory, Load, Store}
use Rattle.tlwire_pins.specs.Drops.{shows_nothing}
use Rattle.tlwire_pins.specs.declared.view.Cores.{Cores}
use Rattle.tlwire_pins.specs.declared.view.Cores.TheVariants.{Watched, Unseen}
use Rattle.tlwire_pins.specs.declared.view.Tap.{Tap}
use Rattle.tlwire_pins.specs.declared.view.View.{View}

-- what a client holds and waits for
abbrev pub view_of : Client → View
view_of k = record { held = k.held; wait = k.wait }

-- at reset nothing, and for nothing
abbrev pub fresh : View
fresh = record { held = Absent; wait = Nothing }

-- ## What may be seen next

-- the Probe that leaves this permission, where the copy had more
abbrev pub cap_to : Perm → ProbeCap
cap_to Branch = ToB
cap_to _ = ToN

-- the Release of a copy
abbrev pub release_of : CachedCopy → Prune → Body
release_of held prune = body.Upward (upward.Release (surrender prune (dirty_bytes held)))

-- the answer of a copy to a Probe
abbrev pub answer_of : CachedCopy → ProbeCap → Body
answer_of held cap = body.Upward (upward.ProbeAck (probe_answer (perm_of held) cap (dirty_bytes held)))

-- A client asks for more while it waits for nothing, from the permission that it has.
abbrev pub MayAcquire : View → Perm → Type 0
MayAcquire v from = (v.wait ≡ Nothing) × (perm_of v.held ≡ from)

-- It gives up while it waits for nothing, from the permission that it has, with its bytes if they are dirty.
abbrev pub MayRelease : View → Prune → Shown → Type 0
MayRelease v prune shown = (v.wait ≡ Nothing) × (perm_of v.held ≡ prune_from prune) × IsMessage (release_of v.held prune) shown

-- It answers a Probe while it waits for no ReleaseAck, with its bytes if they are dirty.
abbrev pub MayAnswer : View → ProbeCap → Shown → Type 0
MayAnswer v cap shown = (v.wait ≢ ForReleaseAck) × IsMessage (answer_of v.held cap) shown

-- a message may be sent by such a client, or taken by it
abbrev pub MaySeeAs : View → Shown → Kind → Type 0
MaySeeAs v shown (kind.AcquireBlock grow) = MayAcquire v (grow_from grow)
MaySeeAs v shown (kind.Release prune) = MayRelease v prune shown
MaySeeAs v shown (kind.ReleaseData prune) = MayRelease v (dirty_prune prune) shown
MaySeeAs v shown (kind.ProbeAck report) = MayAnswer v (cap_to (report_to (probe_report report))) shown
MaySeeAs v shown (kind.ProbeAckData prune) = MayAnswer v (cap_to (prune_to (dirty_prune prune))) shown
MaySeeAs v shown k = Unit {0}

-- what such a message leaves
abbrev pub after_message : View → Kind → Option (List ℕ) → View
after_message v (kind.AcquireBlock grow) bytes = record v { wait = ForGrant }
after_message v (kind.Release prune) bytes = record { held = reduced v.held (prune_to prune); wait = ForReleaseAck }
after_message v (kind.ReleaseData prune) bytes = record { held = reduced v.held (prune_to (dirty_prune prune)); wait = ForReleaseAck }
after_message v (kind.ProbeAck report) bytes = record v { held = reduced v.held (report_to (probe_report report)) }
after_message v (kind.ProbeAckData prune) bytes = record v { held = reduced v.held (prune_to (dirty_prune prune)) }
after_message v (kind.Grant cap) bytes =
    record { held = clean_copy (grant_perm cap) (bytes_or bytes (bytes_of v.held)); wait = Nothing }
after_message v (kind.GrantData cap) bytes =
    record { held = clean_copy (grant_perm cap) (bytes_or bytes (bytes_of v.held)); wait = Nothing }
after_message v kind.ReleaseAck bytes = record v { wait = Nothing }
after_message v k bytes = v

-- a line may be seen of such a client next
abbrev pub MayLine : Shape → View → Seen → Type 0
MayLine shape v (OnLink c block message) = MaySeeAs v message message.kind
MayLine shape v (OnMemory block message) = Unit {0}
MayLine shape v (Load c address bytes) =
    FitsBlock shape address bytes × (perm_of v.held ≢ p_None) × ReadsAs (bytes_of v.held) (address % shape.block_bytes) bytes
MayLine shape v (Store c address bytes) = FitsBlock shape address bytes × (perm_of v.held ≡ Tip)

-- what it leaves
abbrev pub after_line : Shape → View → Seen → View
after_line shape v (OnLink c block message) = after_message v message.kind message.bytes
after_line shape v (OnMemory block message) = v
after_line shape v (Load c address bytes) = v
after_line shape v (Store c address bytes) = record v { held = stored_in (address % shape.block_bytes) bytes v.held }

-- ## Stores that nobody saw

-- A copy at Tip as stores may have left it where a message shows its bytes: with these bytes, and dirty; clean where it
-- shows none.
abbrev pub as_shown : CachedCopy → Option (List ℕ) → CachedCopy
as_shown Absent shown = Absent
as_shown (Readable bytes) shown = Readable bytes
as_shown (Writable bytes dirty) None = Writable bytes false
as_shown (Writable bytes dirty) (Some shown) = Writable shown true

-- the bytes that a line shows
abbrev pub line_bytes : Seen → Option (List ℕ)
line_bytes (OnLink c block message) = message.bytes
line_bytes (OnMemory block message) = None
line_bytes (Load c address bytes) = None
line_bytes (Store c address bytes) = None

-- What a client holds and waits for just before a line: where nobody watched its core, stores made of its Tip what the
-- line shows.
abbrev pub with_stores : Cores → View → Seen → View
with_stores Watched v x = v
with_stores Unseen v x = record v { held = as_shown v.held (line_bytes x) }

-- ## Drops that nobody saw

-- a client that gives no copy up without a word
abbrev pub keeps : Cores → Tap
keeps cores = record { cores = cores; drops = false }

-- it waits for nothing
abbrev pub is_idle : Awaited → Bool
is_idle Nothing = true
is_idle ForGrant = false
is_idle ForReleaseAck = false

-- a copy is there and clean; where nobody watched the core, a Tip may be
abbrev pub is_clean : Cores → CachedCopy → Bool
is_clean cores Absent = false
is_clean cores (Readable bytes) = true
is_clean Watched (Writable bytes dirty) = not dirty
is_clean Unseen (Writable bytes dirty) = true

-- The client may give up its copy without a word: it is clean, and the client waits for nothing.
abbrev pub may_drop : Cores → View → Bool
may_drop cores v = is_idle v.wait && is_clean cores v.held

-- what that leaves
abbrev pub dropped : View → View
dropped v = record v { held = Absent }

-- before a line that shows that the client has nothing, one that drops clean copies has dropped its own
abbrev pub with_drop : Tap → View → Seen → View
with_drop tap v x = if tap.drops && (shows_nothing x && may_drop tap.cores v) then dropped v else v

-- what a client holds and waits for just before a line, with what nobody saw of it: a drop, and stores
abbrev pub before_line : Tap → View → Seen → View
before_line tap v x = with_stores tap.cores (with_drop tap v x) x

-- a line may be seen of such a client next, with what nobody saw before it
abbrev pub MayBeSeen : Tap → Shape → View → Seen → Type 0
MayBeSeen tap shape v x = MayLine shape (before_line tap v x) x

-- what it leaves
abbrev pub after_seen : Tap → Shape → View → Seen → View
after_seen tap shape v x = after_line shape (before_line tap v x) x

-- where these lines lead, one after another
abbrev pub led_by : Tap → Shape → View → List Seen → View
led_by tap shape v [] = v
led_by tap shape v (x ∷ rest) = led_by tap shape (after_seen tap shape v x) rest

-- ## What a line breaks that may not be seen next

-- an Acquire: a rule
abbrev pub BreaksAcquire : View → Perm → Rule → Type 0
BreaksAcquire v from rule.NoAcquireUnanswered = v.wait ≡ ForGrant
BreaksAcquire v from rule.NoReleaseUnanswered = v.wait ≡ ForReleaseAck
BreaksAcquire v from rule.StartsFromItsCopy = (v.wait ≡ Nothing) × (perm_of v.held ≢ from)
BreaksAcquire v from _ = ⊥

-- a Release, where it breaks a rule
abbrev pub BreaksGiving : View → Perm → Rule → Type 0
BreaksGiving v from rule.NoReleaseBesideAcquire = v.wait ≡ ForGrant
BreaksGiving v from rule.NoReleaseUnanswered = v.wait ≡ ForReleaseAck
BreaksGiving v from rule.StartsFromItsCopy = (v.wait ≡ Nothing) × (perm_of v.held ≢ from)
BreaksGiving v from _ = ⊥

-- a rule, if it is one
abbrev pub OfRule : (Rule → Type 0) → Breach → Type 0
OfRule breaks (NotPermitted r) = breaks r
OfRule breaks OutOfOrder = ⊥
OfRule breaks (NotAsShown difference) = ⊥

-- a Release: a rule, or what the client gives up is another message
abbrev pub BreaksRelease : View → Prune → Shown → Breach → Type 0
BreaksRelease v prune shown (NotPermitted r) = BreaksGiving v (prune_from prune) r
BreaksRelease v prune shown OutOfOrder = ⊥
BreaksRelease v prune shown (NotAsShown difference) = DiffersFrom (release_of v.held prune) shown difference

-- an answer to a Probe: it comes before the ReleaseAck, or the client answers by another message
abbrev pub BreaksAnswer : View → ProbeCap → Shown → Breach → Type 0
BreaksAnswer v cap shown (NotPermitted r) = (r ≡ rule.NoReleaseUnanswered) × (v.wait ≡ ForReleaseAck)
BreaksAnswer v cap shown OutOfOrder = ⊥
BreaksAnswer v cap shown (NotAsShown difference) = DiffersFrom (answer_of v.held cap) shown difference

-- a message of a kind
abbrev pub BreaksAs : View → Shown → Kind → Breach → Type 0
BreaksAs v shown (kind.AcquireBlock grow) breach = OfRule (BreaksAcquire v (grow_from grow)) breach
BreaksAs v shown (kind.Release prune) breach = BreaksRelease v prune shown breach
BreaksAs v shown (kind.ReleaseData prune) breach = BreaksRelease v (dirty_prune prune) shown breach
BreaksAs v shown (kind.ProbeAck report) breach = BreaksAnswer v (cap_to (report_to (probe_report report))) shown breach
BreaksAs v shown (kind.ProbeAckData prune) breach = BreaksAnswer v (cap_to (prune_to (dirty_prune prune))) shown breach
BreaksAs v shown k breach = ⊥

-- a load
abbrev pub BreaksLoad : Shape → View → ℕ → List ℕ → Rule → Type 0
BreaksLoad shape v address bytes rule.AccessFits = ¬ FitsBlock shape address bytes
BreaksLoad shape v address bytes rule.CopyIsReadable = perm_of v.held ≡ p_None
BreaksLoad shape v address bytes rule.LoadHasItsBytes = ¬ ReadsAs (bytes_of v.held) (address % shape.block_bytes) bytes
BreaksLoad shape v address bytes _ = ⊥

-- a store
abbrev pub BreaksStore : Shape → View → ℕ → List ℕ → Rule → Type 0
BreaksStore shape v address bytes rule.AccessFits = ¬ FitsBlock shape address bytes
BreaksStore shape v address bytes rule.CopyIsWritable = perm_of v.held ≢ Tip
BreaksStore shape v address bytes _ = ⊥

-- a line
abbrev pub BreaksLine : Shape → View → Seen → Breach → Type 0
BreaksLine shape v (OnLink c block message) breach = BreaksAs v message message.kind breach
BreaksLine shape v (OnMemory block message) breach = ⊥
BreaksLine shape v (Load c address bytes) breach = OfRule (BreaksLoad shape v address bytes) breach
BreaksLine shape v (Store c address bytes) breach = OfRule (BreaksStore shape v address bytes) breach
