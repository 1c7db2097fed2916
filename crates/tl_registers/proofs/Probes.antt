-- What each step of a client leaves of the Probes that a register sent it.
use Rattle.std.proofs.Common.{◌≡◌, ℕ, ◌≤◌, ◌||◌, ◌==◌, not, Bool, true, false, List, [], ◌∷◌, ◌++◌, drop, refl, sym, ◌∙◌, ap, subst, arith}
use Rattle.std.proofs.Math.Bool.{or-true}
use Rattle.std.specs.List.{list_any}
use Rattle.tl_types.specs.Message.{probe_answer, upward_to, is_probe_ack, is_grant}
use Rattle.tl_types.specs.Permission.{rank, probe_perm}
use Rattle.tl_types.specs.declared.message.Downward.{Downward}
use Rattle.tl_types.specs.declared.message.Downward.TheVariants.{Grant, ReleaseAck}
use Rattle.tl_types.specs.declared.message.Upward.{Upward}
use Rattle.tl_types.specs.declared.message.Upward.TheVariants.{ProbeAck, Release}
use Rattle.tl_types.specs.declared.message.Surrender.{Surrender}
use Rattle.tl_types.specs.declared.permission.Perm.{Perm}
use Rattle.tl_types.specs.declared.permission.Perm.TheVariants.{None as p_None, Branch, Tip}
use Rattle.tl_types.specs.declared.permission.ProbeCap.{ProbeCap}
use Rattle.tl_types.specs.declared.permission.ProbeCap.TheVariants.{ToB, ToN}
use Rattle.tl_types.specs.declared.permission.Prune.{Prune}
use Rattle.tl_protocol.specs.Client.{released, answered as answered_client, took_grant, took_c_from}
use Rattle.tl_protocol.specs.Copy.{perm_of, dirty_bytes}
use Rattle.tl_protocol.specs.declared.client.Client.{Client}
use Rattle.tl_protocol.proofs.Pending.{every_answer_is_within}
use Rattle.tl_registers.specs.Fit.{Ask, Answer, ProbeFits}
use Rattle.tl_registers.specs.Pending.{has_first, is_probed, has_grant_pending}
use Rattle.tl_registers.specs.Register.{is_above}

-- What a step of a client does to what is pending at it: it keeps the Probes that fit, and brings no Probe and no Grant up.
pub record KeepsProbes (k later : Client) : Type 0 where
  pub keeps : (cap : ProbeCap) (probed other : Bool) → ProbeFits k cap probed other → ProbeFits later cap probed other
  pub brings_none : is_probed k ≡ false → is_probed later ≡ false
  pub grants_none : has_grant_pending k ≡ false → has_grant_pending later ≡ false

-- ## The messages on C

-- a Release that joins C is no answer to a Probe
any-release : (c : List Upward) (given : Surrender) → list_any is_probe_ack (c ++ Release given ∷ []) ≡ list_any is_probe_ack c
any-release [] given = refl
any-release (message ∷ rest) given = ap (λ t. is_probe_ack message || t) (any-release rest given)

-- with an answer to a Probe put last on C, there is one on C
any-answer : (c : List Upward) (m : Upward) → is_probe_ack m ≡ true → list_any is_probe_ack (c ++ m ∷ []) ≡ true
any-answer [] m h = rw h refl
any-answer (message ∷ rest) m h = rw (any-answer rest m h) (or-true (is_probe_ack message))

-- where a Release joins C, each answer to a Probe still leaves at most the cap
release-answers : (cap : ProbeCap) (c : List Upward) (given : Surrender) → Answer cap c → Answer cap (c ++ Release given ∷ [])
release-answers cap [] given h = tt
release-answers cap (ProbeAck answer ∷ rest) given h = (h.0, release-answers cap rest given h.1)
release-answers cap (Release other ∷ rest) given h = release-answers cap rest given h

-- and where a message joins C that leaves at most the cap if it answers a Probe
more-answers : (cap : ProbeCap) (c : List Upward) (m : Upward) → Answer cap (m ∷ []) → Answer cap c → Answer cap (c ++ m ∷ [])
more-answers cap [] m one h = one
more-answers cap (ProbeAck answer ∷ rest) m one h = (h.0, more-answers cap rest m one h.1)
more-answers cap (Release given ∷ rest) m one h = more-answers cap rest m one h

-- a ReleaseAck that joins D is no Grant
any-ack : (d : List Downward) → list_any is_grant (d ++ ReleaseAck ∷ []) ≡ list_any is_grant d
any-ack [] = refl
any-ack (message ∷ rest) = ap (λ t. is_grant message || t) (any-ack rest)

-- the first of these messages leaves no Grant that was not there
pub fewer-grants : (d : List Downward) (e : ℕ) → (list_any is_grant d || not (e == 0)) ≡ false
    → (list_any is_grant (drop 1 d) || not (e == 0)) ≡ false
fewer-grants [] e h = h
fewer-grants (Grant cap bytes ∷ rest) e h = cc
fewer-grants (ReleaseAck ∷ rest) e h = h

-- ## Permissions

-- at most a cap is not above it
within : (p : Perm) (cap : ProbeCap) → rank p ≤ rank (probe_perm cap) → is_above p cap ≡ false
within p_None ToB l = refl
within p_None ToN l = refl
within Branch ToB l = refl
within Branch ToN l = absurd (omega arith)
within Tip ToB l = absurd (omega arith)
within Tip ToN l = absurd (omega arith)

-- what is not above a cap does not come above it by falling
falls : (p q : Perm) (cap : ProbeCap) → rank q ≤ rank p → is_above p cap ≡ false → is_above q cap ≡ false
falls p_None p_None cap l h = h
falls p_None Branch cap l h = absurd (omega arith)
falls p_None Tip cap l h = absurd (omega arith)
falls Branch q ToB l h = within q ToB l
falls Branch q ToN l h = cc
falls Tip q ToB l h = cc
falls Tip q ToN l h = cc

-- ## The steps

-- a step that leaves B, C and the record leaves the Probes
pub same-probes : (k later : Client) → later.b ≡ k.b → later.c ≡ k.c → later.recorded ≡ k.recorded
    → (has_grant_pending k ≡ false → has_grant_pending later ≡ false) → KeepsProbes k later
same-probes k later b c recorded granted =
    let same : is_probed later ≡ is_probed k = rw (b, c) refl in
    record {
      keeps = λ cap probed other f. record {
        sent = λ h. f.sent (sym same ∙ h);
        asks = let P = λ (xs : List ProbeCap). Ask cap xs in subst P (sym b) f.asks;
        answers = let P = λ (xs : List Upward). Answer cap xs in subst P (sym c) f.answers;
        answered = λ o p h. ap (λ (q : Perm). is_above q cap) recorded ∙ f.answered o p (sym same ∙ h);
      };
      brings_none = λ h. same ∙ h;
      grants_none = granted;
    }

-- a Release joins C
pub released-probes : (k : Client) (prune : Prune) → KeepsProbes k (released k prune)
released-probes k prune =
    let later = released k prune in
    let same : is_probed later ≡ is_probed k = ap (λ t. has_first k.b || t) (any-release k.c _) in
    record {
      keeps = λ cap probed other f. record {
        sent = λ h. f.sent (sym same ∙ h);
        asks = f.asks;
        answers = release-answers cap k.c _ f.answers;
        answered = λ o p h. f.answered o p (sym same ∙ h);
      };
      brings_none = λ h. same ∙ h;
      grants_none = λ h. h;
    }

-- a Probe is answered within its cap
pub answered-probes : (k : Client) (b : List ProbeCap) → k.b ≡ b → KeepsProbes k (answered_client k b)
answered-probes k [] is = same-probes k k refl refl refl (λ h. h)
answered-probes k (first ∷ rest) is =
    let later = answered_client k (first ∷ rest) in
    let was : is_probed k ≡ true = rw is refl in
    let now : is_probed later ≡ true = rw (any-answer k.c _ refl) (or-true (has_first rest)) in
    record {
      keeps = λ cap probed other f.
          let asks : Ask cap (first ∷ rest) = (rw is at f.asks) in
          record {
            sent = λ h. f.sent was;
            asks = asks.1;
            answers =
                let P = λ (x : ProbeCap). rank (upward_to (ProbeAck (probe_answer (perm_of k.held) first (dirty_bytes k.held)))) ≤ rank (probe_perm x) in
                more-answers cap k.c _ (subst P asks.0 (every_answer_is_within (perm_of k.held) first (dirty_bytes k.held)), tt) f.answers;
            answered = λ o p h. let bad : true ≡ false = sym now ∙ h in cc;
          };
      brings_none = λ h. let bad : true ≡ false = sym was ∙ h in cc;
      grants_none = λ h. h;
    }

-- a Grant is taken
pub took_grant-probes : (k : Client) (d : List Downward) → k.d ≡ d → KeepsProbes k (took_grant k d)
took_grant-probes k [] is = same-probes k k refl refl refl (λ h. h)
took_grant-probes k (ReleaseAck ∷ rest) is = same-probes k k refl refl refl (λ h. h)
took_grant-probes k (Grant cap bytes ∷ rest) is = same-probes k (took_grant k (Grant cap bytes ∷ rest)) refl refl refl
    (λ h. let was : has_grant_pending k ≡ true = rw is refl in let bad : true ≡ false = sym was ∙ h in cc)

-- home takes the first message of C, which does not lead upward
pub took_c-probes : (k : Client) (c : List Upward) → k.c ≡ c
    → ((m : Upward) (rest : List Upward) → c ≡ m ∷ rest → rank (upward_to m) ≤ rank k.recorded) → KeepsProbes k (took_c_from k c)
took_c-probes k [] is down = same-probes k k refl refl refl (λ h. h)
took_c-probes k (ProbeAck answer ∷ rest) is down =
    let was : is_probed k ≡ true = rw is (or-true (has_first k.b)) in
    record {
      keeps = λ cap probed other f.
          let answers : Answer cap (ProbeAck answer ∷ rest) = (rw is at f.answers) in
          record {
            sent = λ h. f.sent was;
            asks = f.asks;
            answers = answers.1;
            answered = λ o p h. within (upward_to (ProbeAck answer)) cap answers.0;
          };
      brings_none = λ h. let bad : true ≡ false = sym was ∙ h in cc;
      grants_none = λ h. h;
    }
took_c-probes k (Release given ∷ rest) is down =
    let later = took_c_from k (Release given ∷ rest) in
    let same : is_probed later ≡ is_probed k = rw is refl in
    record {
      keeps = λ cap probed other f. record {
        sent = λ h. f.sent (sym same ∙ h);
        asks = f.asks;
        answers = (rw is at f.answers);
        answered = λ o p h. falls k.recorded (upward_to (Release given)) cap (down (Release given) rest refl) (f.answered o p (sym same ∙ h));
      };
      brings_none = λ h. same ∙ h;
      grants_none = λ h. ap (λ t. t || not (k.e == 0)) (any-ack k.d) ∙ h;
    }
