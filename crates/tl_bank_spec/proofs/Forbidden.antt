-- What the protocol permits no case of its refusals stands against.
use Rattle.std.proofs.Common.{◌≡◌, ◌≢◌, ℕ, zero, suc, ◌<◌, ◌==◌, not, Bool, true, false, List, [], ◌∷◌, length, map, replicate, Some, inl, inr, if◌then◌else◌, refl, sym, ap, ◌∙◌, arith, eq-eqb, nat_lt}
use Rattle.tl_types.specs.Lane.{bodies_of}
use Rattle.tl_types.specs.Permission.{rank}
use Rattle.tl_types.specs.declared.channel.Channel.{Channel}
use Rattle.tl_types.specs.declared.channel.Channel.TheVariants.{A, B, C, D, E}
use Rattle.tl_types.specs.declared.message.Body.{Body}
use Rattle.tl_types.specs.declared.message.Body.TheVariants.{AcquireBlock, ProbeBlock, Upward as b_Upward, Downward as b_Downward, GrantAck}
use Rattle.tl_types.specs.declared.message.Message.{Message}
use Rattle.tl_types.specs.declared.permission.Perm.{Perm}
use Rattle.tl_types.specs.declared.permission.Perm.TheVariants.{None as p_None, Branch, Tip}
use Rattle.tl_types.specs.declared.wait.Awaited.{Awaited}
use Rattle.tl_types.specs.declared.wait.Awaited.TheVariants.{Nothing, ForGrant, ForReleaseAck}
use Rattle.tl_protocol.specs.Home.{IsRequest, IsData}
use Rattle.tl_protocol.specs.Queue.{HasFirst}
use Rattle.tl_protocol.specs.declared.home.Outward.{Outward}
use Rattle.tl_protocol.specs.declared.home.Outward.TheVariants.{PutAck}
use Rattle.tl_protocol_lanes.specs.Lawful.{Lawful}
use Rattle.tl_protocol_lanes.specs.Lists.{list_in}
use Rattle.tl_bank_spec.specs.Calls.{load_cases, store_cases, acquire_cases, release_cases, answer_probe_cases, take_grant_cases, take_release_ack_cases}
use Rattle.tl_bank_spec.specs.Cases.{awaits_release_ack, is_empty}
use Rattle.tl_bank_spec.specs.Forbidden.{EveryRefusalIsTheProtocols}
use Rattle.tl_bank_spec.specs.HomeCalls.{accept_cases, take_c_cases, take_grant_ack_cases, serve_memory_cases, take_memory_cases}
use Rattle.tl_bank_spec.specs.HomeCases.{is_request, is_reply}
use Rattle.tl_bank_spec.specs.Refusal.{Case, first_of}
use Rattle.tl_bank_spec.specs.View.{View, client_at, shape_of}
use Rattle.tl_bank_spec.specs.Tables.{is_waiting}
use Rattle.tl_bank_spec.specs.Channels.{lane_at}
use Rattle.tl_bank_spec.specs.declared.refusal.Refusal.{Refusal}
use Rattle.tl_bank_spec.specs.declared.refusal.Refusal.TheVariants.{NoPermission, Waiting, WrongFrom, NothingThere, ReleasePending}
use Rattle.tl_protocol_lanes.proofs.Logs.{interleaves}

-- ## No case of a refusal

-- no case with this refusal holds
abbrev NoneOf : Refusal → List Case → Type 0
NoneOf r [] = Unit {0}
NoneOf r (x ∷ rest) = (x.1 ≡ r → x.0 ≡ false) × NoneOf r rest

-- a case that is refused first holds, or else the refusal is of the rest
first-if : (t : Bool) (own r : Refusal) (rest : List Case) → (own ≡ r → t ≡ false) → (if t then Some own else first_of rest) ≡ Some r
    → first_of rest ≡ Some r
first-if true own r rest none h = let is : own ≡ r = cc in let no : true ≡ false = none is in cc
first-if false own r rest none h = h

-- where no case with a refusal holds, it is not the first
not-first : (r : Refusal) (cases : List Case) → NoneOf r cases → ¬ (first_of cases ≡ Some r)
not-first r [] none h = cc
not-first r (x ∷ rest) none h = not-first r rest none.1 (first-if x.0 x.1 r rest none.0 h)

-- ## The cases

-- who may read has more than None
reads : (p : Perm) → p ≢ p_None → nat_lt (rank p) 1 ≡ false
reads p_None some = absurd (some refl)
reads Branch some = refl
reads Tip some = refl

-- who has Tip may write
writes : (p : Perm) → p ≡ Tip → nat_lt (rank p) 2 ≡ false
writes p is = rw is refl

-- who waits for nothing does not wait
idle : (wait : Awaited) → wait ≡ Nothing → is_waiting wait ≡ false
idle wait is = ap is_waiting is

-- a permission is of its own rank
same-rank : (p q : Perm) → p ≡ q → not (rank p == rank q) ≡ false
same-rank p q is = ap not (eq-eqb (rank p) (rank q) (ap rank is))

-- who waits for no ReleaseAck awaits none
no-ack : (wait : Awaited) → wait ≢ ForReleaseAck → awaits_release_ack wait ≡ false
no-ack Nothing other = refl
no-ack ForGrant other = refl
no-ack ForReleaseAck other = absurd (other refl)

-- a request of the memory is one
requested : (out : Outward) → IsRequest out → not (is_request out) ≡ false
requested out (inl get) = rw get refl
requested out (inr put) = rw put.1 refl

-- bytes for home are an answer of the memory
brings : (out : Outward) → IsData out → not (is_reply out) ≡ false
brings out data_is = rw data_is.1 refl

-- and so is an acknowledgement
acknowledges : (out : Outward) → out ≡ PutAck → not (is_reply out) ≡ false
acknowledges out is = rw is refl

-- ## Messages that wait

-- where a block has a message, the channel is not empty
some-wait : (block : ℕ) (messages : List Message) (body : Body) (rest : List Body) → bodies_of block messages ≡ body ∷ rest
    → is_empty messages ≡ false
some-wait block [] body rest is = cc
some-wait block (m ∷ more) body rest is = refl

-- so it is where a lawful log leaves a block's list on it
waits : (v : View) → Lawful (shape_of v.geometry) v.image v.log → (c block : ℕ) (l : Channel) (body : Body) (rest : List Body)
    → list_in (client_at v c block) l ≡ body ∷ rest → is_empty (lane_at v c l).messages ≡ false
waits v lawful c block l body rest is = some-wait block (lane_at v c l).messages body rest
    (sym ((interleaves (shape_of v.geometry) v.image v.log lawful).ordered c block l) ∙ is)

-- the list of marked values of a list with a first one
first-marked : {X : Type 0} (mark : X → Body) (xs : List X) (first : HasFirst xs) → map mark xs ≡ mark first.0 ∷ map mark first.1
first-marked mark xs first = ap (map mark) first.2

-- a number of GrantAcks above none
first-ack : (n : ℕ) → 0 < n → (rest : List Body) × (replicate n GrantAck ≡ GrantAck ∷ rest)
first-ack zero l = absurd (omega arith)
first-ack (suc n) l = (replicate n GrantAck, refl)

-- ## All calls

-- what is refused by the protocol was not permitted
pub every_refusal_is_the_protocols : EveryRefusalIsTheProtocols
every_refusal_is_the_protocols v lawful = (
  record {
    load = λ a clock h may.
        not-first NoPermission (load_cases v a.client a.address (length a.bytes) clock)
        ((λ e. cc), ((λ e. cc), ((λ e. reads _ may.1.1.1), ((λ e. cc), tt)))) h;
    store = λ a clock h may.
        not-first NoPermission (store_cases v a.client a.address (length a.bytes) clock)
        ((λ e. cc), ((λ e. cc), ((λ e. writes _ may.1.1.1), ((λ e. cc), tt)))) h;
    acquire_waits = λ client block grow h may.
        not-first Waiting (acquire_cases v client block grow)
        ((λ e. cc), ((λ e. cc), ((λ e. idle _ may.1.1.0), ((λ e. cc), ((λ e. cc), ((λ e. cc), tt)))))) h;
    acquire_from = λ client block grow h may.
        not-first WrongFrom (acquire_cases v client block grow)
        ((λ e. cc), ((λ e. cc), ((λ e. cc), ((λ e. same-rank _ _ may.1.1.1), ((λ e. cc), ((λ e. cc), tt)))))) h;
    release_waits = λ client block prune share h may.
        not-first Waiting (release_cases v client block prune share)
        ((λ e. cc), ((λ e. cc), ((λ e. idle _ may.1.1.0), ((λ e. cc), ((λ e. cc), tt))))) h;
    release_from = λ client block prune share h may.
        not-first WrongFrom (release_cases v client block prune share)
        ((λ e. cc), ((λ e. cc), ((λ e. cc), ((λ e. same-rank _ _ may.1.1.1), ((λ e. cc), tt))))) h;
    answer_probe = λ ticket share block h may.
        let first = may.1.1.0 in
        not-first NothingThere (answer_probe_cases v ticket share) (
          (λ e. cc),
          (
            (λ e. cc),
            (
              (λ e. cc),
              ((λ e. waits v lawful ticket.client block B _ _ (first-marked ProbeBlock _ first)), ((λ e. cc), ((λ e. cc), ((λ e. cc), tt)))),
            ),
          ),
        ) h;
    take_grant = λ ticket share block h may.
        let grant = may.1.1 in
        not-first NothingThere (take_grant_cases v ticket share) (
          (λ e. cc),
          (
            (λ e. cc),
            (
              (λ e. cc),
              ((λ e. waits v lawful ticket.client block D _ _ (ap (map b_Downward) grant.3)), ((λ e. cc), ((λ e. cc), tt))),
            ),
          ),
        ) h;
    take_release_ack = λ ticket block h may.
        let ack = may.1.1 in
        not-first NothingThere (take_release_ack_cases v ticket) (
          (λ e. cc),
          (
            (λ e. cc),
            (
              (λ e. cc),
              ((λ e. waits v lawful ticket.client block D _ _ (ap (map b_Downward) ack.1)), ((λ e. cc), tt)),
            ),
          ),
        ) h;
    answer_pending = λ ticket share h may.
        not-first ReleasePending (answer_probe_cases v ticket share)
        ((λ e. cc), ((λ e. cc), ((λ e. cc), ((λ e. cc), ((λ e. cc), ((λ e. no-ack _ may.1.1.1), ((λ e. cc), tt))))))) h;
  },
  record {
    accept = λ ticket block h may.
        let first = may.1.1 in
        not-first NothingThere (accept_cases v ticket) (
          (λ e. cc),
          (
            (λ e. cc),
            (
              (λ e. cc),
              ((λ e. waits v lawful ticket.client block A _ _ (first-marked AcquireBlock _ first)), ((λ e. cc), ((λ e. cc), ((λ e. cc), tt)))),
            ),
          ),
        ) h;
    take_c = λ ticket block h may.
        let first = may.1.1 in
        not-first NothingThere (take_c_cases v ticket) (
          (λ e. cc),
          (
            (λ e. cc),
            (
              (λ e. cc),
              ((λ e. waits v lawful ticket.client block C _ _ (first-marked b_Upward _ first)), ((λ e. cc), ((λ e. cc), tt))),
            ),
          ),
        ) h;
    take_grant_ack = λ ticket block h may.
        let first = first-ack _ may.1.1 in
        not-first NothingThere (take_grant_ack_cases v ticket) (
          (λ e. cc),
          (
            (λ e. cc),
            (
              (λ e. cc),
              ((λ e. waits v lawful ticket.client block E _ _ first.1), ((λ e. cc), tt)),
            ),
          ),
        ) h;
    serve_memory = λ block h may. not-first NothingThere (serve_memory_cases v block) ((λ e. cc), ((λ e. cc), ((λ e. requested _ may.1), tt))) h;
    take_data = λ block h may. not-first NothingThere (take_memory_cases v block) ((λ e. cc), ((λ e. cc), ((λ e. brings _ may.1), tt))) h;
    take_put_ack = λ block h may. not-first NothingThere (take_memory_cases v block) ((λ e. cc), ((λ e. cc), ((λ e. acknowledges _ may.1), tt))) h;
  },
)
