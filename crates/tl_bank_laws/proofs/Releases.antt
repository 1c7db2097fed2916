-- A Release, and what it leaves.
use Rattle.std.proofs.Common.{◌≡◌, ◌≢◌, ℕ, ◌<◌, ◌^◌, false, [], ◌∷◌, ◌++◌, None, if◌then◌else◌, refl, sym, ◌∙◌, ap, subst}
use Rattle.tl_types.specs.Lane.{is_here, with_message}
use Rattle.tl_types.specs.Message.{surrender}
use Rattle.tl_types.specs.Permission.{prune_from, prune_to}
use Rattle.tl_types.specs.declared.channel.Channel.{Channel}
use Rattle.tl_types.specs.declared.channel.Channel.TheVariants.{C}
use Rattle.tl_types.specs.declared.message.Body.TheVariants.{Upward as b_Upward}
use Rattle.tl_types.specs.declared.message.Surrender.{Surrender}
use Rattle.tl_types.specs.declared.message.Upward.TheVariants.{Release}
use Rattle.tl_types.specs.declared.permission.Perm.{Perm}
use Rattle.tl_types.specs.declared.permission.Perm.TheVariants.{None as p_None}
use Rattle.tl_types.specs.declared.permission.Prune.{Prune}
use Rattle.tl_types.specs.declared.permission.Prune.TheVariants.{TtoB, TtoN, BtoN}
use Rattle.tl_types.specs.declared.wait.Awaited.TheVariants.{ForReleaseAck}
use Rattle.tl_map.specs.Limits.{IsLawful}
use Rattle.tl_protocol.specs.Client.{released}
use Rattle.tl_protocol.specs.Copy.{perm_of, dirty_bytes, reduced}
use Rattle.tl_protocol.specs.Protocol.{is_none}
use Rattle.tl_protocol.specs.declared.client.Client.{Client}
use Rattle.tl_protocol.specs.declared.copy.CachedCopy.{CachedCopy}
use Rattle.tl_protocol.specs.declared.event.Event.TheVariants.{SendRelease}
use Rattle.tl_links.specs.Table.{LinkTable, lane_in, SameSize as SameLinks}
use Rattle.tl_copies.specs.Copies.{Tables, held_at, is_cell, SameSize as SameCopies}
use Rattle.tl_bank_spec.specs.Calls.{release_cases}
use Rattle.tl_bank_spec.specs.Refusal.{first_of}
use Rattle.tl_bank_spec.specs.Share.{ShareView, recount}
use Rattle.tl_bank_spec.specs.View.{View, client_at, perm_at}
use Rattle.tl_bank_spec.specs.Tables.{copies_at}
use Rattle.tl_bank_laws.specs.Entry.{HasPlace, entry_with}
use Rattle.tl_bank_laws.specs.Layers.{Layers}
use Rattle.tl_bank_laws.specs.Means.{Means}
use Rattle.tl_bank_laws.proofs.Allowed.{ReleaseAllowed, release-allowed}
use Rattle.tl_bank_laws.proofs.Counts.{step-count, step-perm, counts-one, copies-few}
use Rattle.tl_bank_laws.proofs.Entries.{put-is}
use Rattle.tl_bank_laws.proofs.Keep.{ClientStep, means-step}
use Rattle.tl_bank_laws.proofs.Places.{entry-there, place-there}

-- each Release starts from a permission above None
some-from : (prune : Prune) → prune_from prune ≢ p_None
some-from TtoB = λ e. cc
some-from TtoN = λ e. cc
some-from BtoN = λ e. cc

-- where no refusal's case holds, the Release is a step of its client, which has given up and waits afterwards
release-step : (v : View) (c b : ℕ) (prune : Prune) (share : ShareView) → first_of (release_cases v c b prune share) ≡ None
    → ClientStep v (SendRelease c b prune) c (released (client_at v c b) prune)
release-step v c b prune share none =
    let ok : ReleaseAllowed v c b prune share = release-allowed v c b prune share none in
    record {
      may = (ok.block, (ok.client, (ok.wait, ok.from)));
      first = tt;
      leaves = refl;
      leaves_registers = tt;
      here = ok.here;
      later = tt;
      client = λ x. refl;
      recorded = refl;
    }

-- the client's table has a place for what is left of the copy, as it has an entry for the block
pub release-place : (v : View) (h : Layers) (c b : ℕ) (prune : Prune) (share : ShareView) (copy : CachedCopy) → Means v h
    → first_of (release_cases v c b prune share) ≡ None → HasPlace h.copies c b copy ForReleaseAck
release-place v h c b prune share copy m none =
    let ok : ReleaseAllowed v c b prune share = release-allowed v c b prune share none in
    place-there v h c b copy ForReleaseAck m ok.client ok.block
    (λ need. entry-there (client_at v c b).held (client_at v c b).wait (λ e. some-from prune (sym ok.from ∙ e)))

-- what a Release shows of the bank before it
pub record GivesUp (v : View) (c b : ℕ) (prune : Prune) (share : ShareView) (copy : CachedCopy) (given : Surrender) : Type 0 where
  pub allowed : first_of (release_cases v c b prune share) ≡ None
  pub copy_is : copy ≡ reduced (client_at v c b).held (prune_to prune)
  pub given_is : given ≡ surrender prune (dirty_bytes (client_at v c b).held)

-- the bank is kept once the Release is on C, and the reduced copy is in the client's table, waiting for the ReleaseAck
pub release-keeps : (v : View) (h : Layers) (c b : ℕ) (prune : Prune) (share : ShareView) (copy : CachedCopy) (given : Surrender)
    (room : ℕ) (links : LinkTable) (tables : Tables)
    → Means v h → GivesUp v c b prune share copy given → SameLinks h.links links
    → ((x : ℕ) (l : Channel) → lane_in links x l
    ≡ (if is_here c C x l then with_message (lane_in h.links x l) (record { block = b; body = b_Upward (Release given) })
    else lane_in h.links x l))
    → SameCopies h.copies tables
    → ((x y : ℕ) → held_at tables x y ≡ (if is_cell c b x y then entry_with copy ForReleaseAck else held_at h.copies x y))
    → Means (record v { log = v.log ++ SendRelease c b prune ∷ []; room = room }) (record h { links = links; copies = tables })
release-keeps v h c b prune share copy given room links tables m gives same_links sends same after =
    let k : Client = client_at v c b in
    let Sends : Surrender → Type 0 = λ g. (x : ℕ) (l : Channel) → lane_in links x l
    ≡ (if is_here c C x l then with_message (lane_in h.links x l) (record { block = b; body = b_Upward (Release g) })
    else lane_in h.links x l) in
    means-step v h (record h { links = links; copies = tables }) (SendRelease c b prune) c (released k prune) room m
    (release-step v c b prune share gives.allowed)
    (record {
      lanes = subst Sends gives.given_is sends;
      copies = put-is h.copies tables c b copy (reduced k.held (prune_to prune)) ForReleaseAck ForReleaseAck gives.copy_is refl after;
      links_size = same_links;
      copies_size = same;
      home = refl;
      limit = refl;
      clock = refl;
    })

-- ## The share

-- a share that a Release takes counts the copy
pub release-counted : (v : View) (c b : ℕ) (prune : Prune) (share : ShareView) → IsLawful v.geometry
    → first_of (release_cases v c b prune share) ≡ None
    → (is_none (perm_at v c b) ≡ false → 0 < share.count) × (share.count < 2 ^ 31)
release-counted v c b prune share lawful none =
    let ok : ReleaseAllowed v c b prune share = release-allowed v c b prune share none in
    (λ some. rw ok.count (counts-one v c b ok.block some), rw ok.count (copies-few v c lawful))

-- the copy is what the client holds afterwards
pub release-later : (v : View) (c b : ℕ) (prune : Prune) (share : ShareView) (copy : CachedCopy) (given : Surrender) (room : ℕ)
    → GivesUp v c b prune share copy given
    → perm_of copy ≡ perm_at (record v { log = v.log ++ SendRelease c b prune ∷ []; room = room }) c b
release-later v c b prune share copy given room gives =
    ap perm_of gives.copy_is
    ∙ sym (step-perm v (SendRelease c b prune) c (released (client_at v c b) prune) room (release-step v c b prune share gives.allowed))

-- and the share counts the client's copies afterwards
pub release-count : (v : View) (c b : ℕ) (prune : Prune) (share : ShareView) (copy : CachedCopy) (given : Surrender) (room : ℕ) (before : Perm)
    → GivesUp v c b prune share copy given → before ≡ perm_at v c b
    → recount before (perm_of copy) share.count ≡ copies_at (record v { log = v.log ++ SendRelease c b prune ∷ []; room = room }) c
release-count v c b prune share copy given room before gives is =
    let ok : ReleaseAllowed v c b prune share = release-allowed v c b prune share gives.allowed in
    let k : Client = released (client_at v c b) prune in
    ap (λ p. recount p (perm_of copy) share.count) is
    ∙ ap (λ (p : CachedCopy). recount (perm_at v c b) (perm_of p) share.count) gives.copy_is
    ∙ ap (recount (perm_at v c b) (perm_of k.held)) ok.count
    ∙ sym (step-count v (SendRelease c b prune) c k room (release-step v c b prune share gives.allowed))
