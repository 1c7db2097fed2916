-- The table of codes, read both ways.
use Rattle.std.proofs.Common.{◌≡◌, ◌==◌, ℕ, Option, Some, None, if◌then◌else◌, Bool, true, false, refl, subst, arith}
use borrow.Author.Tests.{eqb-true}
use Rattle.std.specs.Option.{option_map}
use Rattle.std.proofs.lemmas.Grind.{common_steps}
use Rattle.tl_types.specs.Codes.{channel_of, code_of, grow_param, probe_param, grant_param, prune_param, dirty_param, report_param, HasCode}
use Rattle.tl_types.specs.Decoding.{kind_at, kind_on_a, kind_on_b, kind_on_c, kind_on_d, kind_on_e, plain_at, grow_at, probe_at, grant_at, prune_at, dirty_at, report_at}
use Rattle.tl_types.specs.declared.channel.Channel.{Channel}
use Rattle.tl_types.specs.declared.channel.Channel.TheVariants.{A, B, C, D, E}
use Rattle.tl_types.specs.declared.permission.ProbeCap.{ProbeCap}
use Rattle.tl_types.specs.declared.permission.ProbeCap.TheVariants.{ToB, ToN}
use Rattle.tl_types.specs.declared.permission.GrantCap.{GrantCap}
use Rattle.tl_types.specs.declared.permission.GrantCap.TheVariants.{ToT as g_ToT, ToB as g_ToB}
use Rattle.tl_types.specs.declared.permission.Grow.{Grow}
use Rattle.tl_types.specs.declared.permission.Grow.TheVariants.{NtoB, NtoT, BtoT}
use Rattle.tl_types.specs.declared.permission.Prune.{Prune}
use Rattle.tl_types.specs.declared.permission.Prune.TheVariants.{TtoB, TtoN, BtoN}
use Rattle.tl_types.specs.declared.permission.DirtyPrune.{DirtyPrune}
use Rattle.tl_types.specs.declared.permission.DirtyPrune.TheVariants.{TtoB as d_TtoB, TtoN as d_TtoN}
use Rattle.tl_types.specs.declared.permission.ProbeReport.{ProbeReport}
use Rattle.tl_types.specs.declared.permission.ProbeReport.TheVariants.{TtoB as a_TtoB, TtoN as a_TtoN, BtoB as a_BtoB, BtoN as a_BtoN, NtoN as a_NtoN}
use Rattle.tl_types.specs.declared.kind.Kind.{Kind}
use Rattle.tl_types.specs.declared.kind.Kind.TheVariants.{PutFullData, Get, AcquireBlock, ProbeBlock, ProbeAck, ProbeAckData, Release, ReleaseData, AccessAck, AccessAckData, Grant, GrantData, ReleaseAck, GrantAck}

-- each kind's codes stand for it
every_kind : (kind : Kind) → kind_at (channel_of kind) (code_of kind).0 (code_of kind).1 ≡ Some kind
unfolding kind_at
every_kind PutFullData = refl
every_kind Get = refl
every_kind (AcquireBlock NtoB) = refl
every_kind (AcquireBlock NtoT) = refl
every_kind (AcquireBlock BtoT) = refl
every_kind (ProbeBlock ToB) = refl
every_kind (ProbeBlock ToN) = refl
every_kind (ProbeAck a_TtoB) = refl
every_kind (ProbeAck a_TtoN) = refl
every_kind (ProbeAck a_BtoB) = refl
every_kind (ProbeAck a_BtoN) = refl
every_kind (ProbeAck a_NtoN) = refl
every_kind (ProbeAckData d_TtoB) = refl
every_kind (ProbeAckData d_TtoN) = refl
every_kind (Release TtoB) = refl
every_kind (Release TtoN) = refl
every_kind (Release BtoN) = refl
every_kind (ReleaseData d_TtoB) = refl
every_kind (ReleaseData d_TtoN) = refl
every_kind AccessAck = refl
every_kind AccessAckData = refl
every_kind (Grant g_ToT) = refl
every_kind (Grant g_ToB) = refl
every_kind (GrantData g_ToT) = refl
every_kind (GrantData g_ToB) = refl
every_kind ReleaseAck = refl
every_kind GrantAck = refl

-- the codes of a kind stand for it
pub own_code : (channel : Channel) (opcode param : ℕ) (kind : Kind) → HasCode kind channel opcode param → kind_at channel opcode param ≡ Some kind
own_code channel opcode param kind (on, code) =
    subst (λ (c : Channel). kind_at c opcode param ≡ Some kind) on
    (subst (λ (pair : ℕ × ℕ). kind_at (channel_of kind) pair.0 pair.1 ≡ Some kind) code (every_kind kind))

-- ## A parameter that stands for a value is its own

-- a parameter that stands for what an Acquire asks for is its own
grow_is : (n : ℕ) (x : Grow) → grow_at n ≡ Some x → grow_param x ≡ n
grow_is n x e = grind (arith, common_steps)

-- a parameter that stands for the cap of a Probe is its own
probe_is : (n : ℕ) (x : ProbeCap) → probe_at n ≡ Some x → probe_param x ≡ n
probe_is n x e = grind (arith, common_steps)

-- a parameter that stands for the cap of a Grant is its own
grant_is : (n : ℕ) (x : GrantCap) → grant_at n ≡ Some x → grant_param x ≡ n
grant_is n x e = grind (arith, common_steps)

-- a parameter that stands for what a Release gives up is its own
prune_is : (n : ℕ) (x : Prune) → prune_at n ≡ Some x → prune_param x ≡ n
prune_is n x e = grind (arith, common_steps)

-- a parameter that stands for what a message with dirty bytes gives up is its own
dirty_is : (n : ℕ) (x : DirtyPrune) → dirty_at n ≡ Some x → dirty_param x ≡ n
dirty_is n x e = grind (arith, common_steps)

-- a parameter that stands for what a ProbeAck reports is its own
report_is : (n : ℕ) (x : ProbeReport) → report_at n ≡ Some x → report_param x ≡ n
report_is n x e = grind (arith, common_steps)

-- ## Codes that stand for a kind are its own

-- a choice that gives a value gives it by one of its sides
either :
    {P : Type 0} (b : Bool) (x y : Option Kind) (kind : Kind) → (if b then x else y) ≡ Some kind
    → (b ≡ true → x ≡ Some kind → P) → (y ≡ Some kind → P) → P
either true x y kind e yes_ no_ = yes_ refl e
either false x y kind e yes_ no_ = no_ e

-- a kind without a parameter
plain :
    (its kind : Kind) (channel : Channel) (n opcode param : ℕ) → channel_of its ≡ channel → code_of its ≡ (n, 0)
    → (opcode == n) ≡ true → plain_at param its ≡ Some kind → HasCode kind channel opcode param
plain its kind channel n opcode param on code same e =
    either (param == 0) (Some its) None kind e
    (λ zero_ is.
    let opcode_is : opcode ≡ n = eqb-true opcode n same in
    let param_is : param ≡ 0 = eqb-true param 0 zero_ in
    let kind_is : its ≡ kind = cc in
    subst (λ (k : Kind). HasCode k channel opcode param) kind_is (on, cc))
    (λ never. cc)

-- a kind with a parameter
with_param :
    {X : Type 0} (make : X → Kind) (at : Option X) (code : X → ℕ) (kind : Kind) (channel : Channel) (n opcode param : ℕ)
    → ((x : X) → channel_of (make x) ≡ channel) → ((x : X) → code_of (make x) ≡ (n, code x))
    → (opcode == n) ≡ true → ((x : X) → at ≡ Some x → code x ≡ param) → option_map make at ≡ Some kind
    → HasCode kind channel opcode param
with_param make None code kind channel n opcode param on codes_ same is e = cc
with_param make (Some x) code kind channel n opcode param on codes_ same is e =
    let opcode_is : opcode ≡ n = eqb-true opcode n same in
    let param_is : code x ≡ param = is x refl in
    let kind_is : make x ≡ kind = cc in
    let its : code_of (make x) ≡ (n, code x) = codes_ x in
    subst (λ (k : Kind). HasCode k channel opcode param) kind_is (on x, cc)

-- codes that stand for a kind on A are its own
on_a : (opcode param : ℕ) (kind : Kind) → kind_on_a opcode param ≡ Some kind → HasCode kind A opcode param
on_a o p k e =
    either (o == 0) _ _ k e (λ t h. plain PutFullData k A 0 o p refl refl t h)
    (λ e4. either (o == 4) _ _ k e4 (λ t h. plain Get k A 4 o p refl refl t h)
    (λ e6. either (o == 6) _ _ k e6
    (λ t h. with_param AcquireBlock (grow_at p) grow_param k A 6 o p (λ x. refl) (λ x. refl) t (grow_is p) h) (λ never. cc)))

-- codes that stand for a kind on B are its own
on_b : (opcode param : ℕ) (kind : Kind) → kind_on_b opcode param ≡ Some kind → HasCode kind B opcode param
on_b o p k e =
    either (o == 6) _ _ k e
    (λ t h. with_param ProbeBlock (probe_at p) probe_param k B 6 o p (λ x. refl) (λ x. refl) t (probe_is p) h) (λ never. cc)

-- codes that stand for a kind on C are its own
on_c : (opcode param : ℕ) (kind : Kind) → kind_on_c opcode param ≡ Some kind → HasCode kind C opcode param
on_c o p k e =
    either (o == 4) _ _ k e
    (λ t h. with_param ProbeAck (report_at p) report_param k C 4 o p (λ x. refl) (λ x. refl) t (report_is p) h)
    (λ e5. either (o == 5) _ _ k e5
    (λ t h. with_param ProbeAckData (dirty_at p) dirty_param k C 5 o p (λ x. refl) (λ x. refl) t (dirty_is p) h)
    (λ e6. either (o == 6) _ _ k e6
    (λ t h. with_param Release (prune_at p) prune_param k C 6 o p (λ x. refl) (λ x. refl) t (prune_is p) h)
    (λ e7. either (o == 7) _ _ k e7
    (λ t h. with_param ReleaseData (dirty_at p) dirty_param k C 7 o p (λ x. refl) (λ x. refl) t (dirty_is p) h)
    (λ never. cc))))

-- codes that stand for a kind on D are its own
on_d : (opcode param : ℕ) (kind : Kind) → kind_on_d opcode param ≡ Some kind → HasCode kind D opcode param
on_d o p k e =
    either (o == 0) _ _ k e (λ t h. plain AccessAck k D 0 o p refl refl t h)
    (λ e1. either (o == 1) _ _ k e1 (λ t h. plain AccessAckData k D 1 o p refl refl t h)
    (λ e4. either (o == 4) _ _ k e4
    (λ t h. with_param Grant (grant_at p) grant_param k D 4 o p (λ x. refl) (λ x. refl) t (grant_is p) h)
    (λ e5. either (o == 5) _ _ k e5
    (λ t h. with_param GrantData (grant_at p) grant_param k D 5 o p (λ x. refl) (λ x. refl) t (grant_is p) h)
    (λ e6. either (o == 6) _ _ k e6 (λ t h. plain ReleaseAck k D 6 o p refl refl t h) (λ never. cc)))))

-- codes that stand for a kind on E are its own
on_e : (opcode param : ℕ) (kind : Kind) → kind_on_e opcode param ≡ Some kind → HasCode kind E opcode param
on_e o p k e = either (o == 0) _ _ k e (λ t h. plain GrantAck k E 0 o p refl refl t h) (λ never. cc)

-- codes that stand for a kind are its own
pub every_code : (channel : Channel) (opcode param : ℕ) (kind : Kind) → kind_at channel opcode param ≡ Some kind → HasCode kind channel opcode param
unfolding kind_at
every_code A = on_a
every_code B = on_b
every_code C = on_c
every_code D = on_d
every_code E = on_e
