-- An entry is read back from the line that it prints as.
use Rattle.std.proofs.Common.{◌≡◌, ℕ, ◌<◌, ◌≤◌, ◌^◌, ◌||◌, true, false, not, nat_lt, eqb, List, [], ◌∷◌, ◌++◌, length, All, Option, Some, None, Result, Ok, codes, decimal, refl, sym, ap, subst, ◌∙◌, arith, append_assoc}
use Rattle.std.proofs.lemmas.Bool.{le-ltb}
use Rattle.std.proofs.lemmas.Bool.Decides.{nat_tests}
use Rattle.std.proofs.lemmas.List.{append-nil}
use Rattle.std.specs.List.{list_all}
use Rattle.tl_types.specs.declared.limits.TheConstants.{BLOCK_BYTES}
use Rattle.tl_types.specs.Text.{dirty_prune_text, grant_cap_text, grow_text, probe_cap_text, probe_report_text, prune_text, kind_text}
use Rattle.tl_types.specs.declared.kind.Kind.{Kind}
use Rattle.tl_types.specs.declared.kind.Kind.TheVariants as kind
use Rattle.tl_types.specs.declared.permission.DirtyPrune.{DirtyPrune}
use Rattle.tl_types.specs.declared.permission.DirtyPrune.TheVariants as dirty
use Rattle.tl_types.specs.declared.permission.GrantCap.{GrantCap}
use Rattle.tl_types.specs.declared.permission.GrantCap.TheVariants as grant
use Rattle.tl_types.specs.declared.permission.Grow.{Grow}
use Rattle.tl_types.specs.declared.permission.Grow.TheVariants as grow
use Rattle.tl_types.specs.declared.permission.ProbeCap.{ProbeCap}
use Rattle.tl_types.specs.declared.permission.ProbeCap.TheVariants as probe
use Rattle.tl_types.specs.declared.permission.ProbeReport.{ProbeReport}
use Rattle.tl_types.specs.declared.permission.ProbeReport.TheVariants as report
use Rattle.tl_types.specs.declared.permission.Prune.{Prune}
use Rattle.tl_types.specs.declared.permission.Prune.TheVariants as prune
use Rattle.tl_script_words.proofs.HexLaws.{address_read, bytes_read}
use Rattle.tl_script_words.proofs.TicketLaws.{number_read}
use Rattle.tl_script_words.specs.Hex.{hex_text, address_text}
use Rattle.tl_script_words.specs.Ticket.{grow_of, prune_of}
use Rattle.tl_script_words.specs.Words.{access_of, number_of, words_of}
use Rattle.tlcheck_record.specs.Cause.{◌>>=◌}
use Rattle.tlcheck_record.specs.Words.{block_bytes_in}
use Rattle.tlcheck_record.specs.declared.cause.Cause.{Cause}
use Rattle.tl_protocol.specs.declared.event.Access.{Access}
use Rattle.tl_protocol.specs.declared.event.Event.{Event}
use Rattle.tl_protocol.specs.declared.event.Event.TheVariants as event
use Rattle.tlcheck_rules.specs.declared.entry.Entry.{Entry}
use Rattle.tlcheck_rules.specs.declared.entry.Shown.{Shown}
use Rattle.tlcheck_record.specs.declared.entries.ClientCall.{ClientCall}
use Rattle.tlcheck_record.specs.declared.entries.ClientCall.TheVariants as call
use Rattle.tlcheck_record.specs.declared.entries.HomeCall.{HomeCall}
use Rattle.tlcheck_record.specs.declared.entries.HomeCall.TheVariants as home
use Rattle.tlcheck_record.specs.Entry.{access_in, acquire_in, client_entry, client_event, entry_by, entry_in, entry_of, home_entry, home_event, probe_in, release_in, with_access}
use Rattle.tlcheck_record.specs.Shown.{bare_kind, data_kind, dirty_of, grant_cap_of, plain_kind, probe_cap_of, report_of, shown_of}
use Rattle.tlcheck_record.specs.Written.{HasLine, HasWords, IsMessage, IsShowable, MayShow, access_text, entry_text, event_text, pair_text, plain_access, plain_entry, plain_event, shown_text}
use Rattle.tlcheck_record.proofs.Lines.{AreWords, IsWord, address, both_words, hex, is_word, line, number, spaced, spaced_more}

-- ## Parameters

grow_word : (g : Grow) → IsWord (grow_text g)
grow_word grow.NtoB = (refl, (refl, (refl, (refl, tt))))
grow_word grow.NtoT = (refl, (refl, (refl, (refl, tt))))
grow_word grow.BtoT = (refl, (refl, (refl, (refl, tt))))

grow_read : (g : Grow) → grow_of (grow_text g) ≡ Some g
unfolding grow_of
grow_read grow.NtoB = refl
grow_read grow.NtoT = refl
grow_read grow.BtoT = refl

prune_word : (p : Prune) → IsWord (prune_text p)
prune_word prune.TtoB = (refl, (refl, (refl, (refl, tt))))
prune_word prune.TtoN = (refl, (refl, (refl, (refl, tt))))
prune_word prune.BtoN = (refl, (refl, (refl, (refl, tt))))

prune_read : (p : Prune) → prune_of (prune_text p) ≡ Some p
unfolding prune_of
prune_read prune.TtoB = refl
prune_read prune.TtoN = refl
prune_read prune.BtoN = refl

probe_word : (p : ProbeCap) → IsWord (probe_cap_text p)
probe_word probe.ToB = (refl, (refl, (refl, tt)))
probe_word probe.ToN = (refl, (refl, (refl, tt)))

probe_read : (p : ProbeCap) → probe_cap_of (probe_cap_text p) ≡ Ok p
unfolding probe_cap_of
probe_read probe.ToB = refl
probe_read probe.ToN = refl

grant_word : (p : GrantCap) → IsWord (grant_cap_text p)
grant_word grant.ToT = (refl, (refl, (refl, tt)))
grant_word grant.ToB = (refl, (refl, (refl, tt)))

grant_read : (p : GrantCap) → grant_cap_of (grant_cap_text p) ≡ Ok p
unfolding grant_cap_of
grant_read grant.ToT = refl
grant_read grant.ToB = refl

dirty_word : (p : DirtyPrune) → IsWord (dirty_prune_text p)
dirty_word dirty.TtoB = (refl, (refl, (refl, (refl, tt))))
dirty_word dirty.TtoN = (refl, (refl, (refl, (refl, tt))))

dirty_read : (p : DirtyPrune) → dirty_of (dirty_prune_text p) ≡ Ok p
unfolding dirty_of
dirty_read dirty.TtoB = refl
dirty_read dirty.TtoN = refl

report_word : (p : ProbeReport) → IsWord (probe_report_text p)
report_word report.TtoB = (refl, (refl, (refl, (refl, tt))))
report_word report.TtoN = (refl, (refl, (refl, (refl, tt))))
report_word report.BtoB = (refl, (refl, (refl, (refl, tt))))
report_word report.BtoN = (refl, (refl, (refl, (refl, tt))))
report_word report.NtoN = (refl, (refl, (refl, (refl, tt))))

report_read : (p : ProbeReport) → report_of (probe_report_text p) ≡ Ok p
unfolding report_of
report_read report.TtoB = refl
report_read report.TtoN = refl
report_read report.BtoB = refl
report_read report.BtoN = refl
report_read report.NtoN = refl

-- ## Bytes

access_read : (a : Access) → HasWords a → access_of (hex_text a.bytes) ≡ Some a.bytes
unfolding access_of
access_read a h =
    let few : (eqb (length a.bytes) 0 || nat_lt 8 (length a.bytes)) ≡ false = let lo = h.some in let hi = h.most in grind (arith, nat_tests) in
    rw (bytes_read a.bytes h.bytes, few) refl

block_read : (bytes : List ℕ) → length bytes ≤ BLOCK_BYTES → All (λ b. b < 256) bytes → block_bytes_in (hex_text bytes) ≡ Ok bytes
unfolding block_bytes_in
block_read bytes few h = rw (bytes_read bytes h, le-ltb BLOCK_BYTES (length bytes) few) refl

-- ## What is shown

-- the words that what is shown prints as, and that they are read as that
record Shows (shown : Option Shown) : Type 0 where
  words : List (List ℕ)
  text : shown_text shown ≡ spaced words
  are : AreWords words
  read : shown_of words ≡ Ok shown

-- a message with its bytes
abbrev with_ : Kind → Option (List ℕ) → Option Shown
with_ k bytes = Some (record { kind = k; bytes = bytes })

bare : (name : List ℕ) (k : Kind) → kind_text k ≡ name → IsWord name → bare_kind name ≡ Ok k → Shows (with_ k None)
unfolding shown_of
bare name k same word read = record {
  words = name ∷ [];
  text = rw same refl;
  are = (word, tt);
  read = rw read refl;
}

plain : (name param : List ℕ) (k : Kind) → kind_text k ≡ name ++ 32 ∷ param → IsWord name → IsWord param → plain_kind name param ≡ Ok k → Shows (with_ k None)
unfolding shown_of
plain name param k same word param_word read = record {
  words = name ∷ param ∷ [];
  text = rw same (ap (λ (l : List ℕ). 32 ∷ l) (append_assoc name (32 ∷ param) []));
  are = (word, (param_word, tt));
  read = rw read refl;
}

data_ : (name param bytes : List ℕ) (k : Kind) → kind_text k ≡ name ++ 32 ∷ param → IsWord name → IsWord param → data_kind name param ≡ Ok k
    → length bytes ≤ BLOCK_BYTES → All (λ b. b < 256) bytes → Shows (with_ k (Some bytes))
unfolding shown_of
data_ name param bytes k same word param_word read few h = record {
  words = name ∷ param ∷ hex_text bytes ∷ [];
  text = rw (same, append-nil (hex_text bytes)) (ap (λ (l : List ℕ). 32 ∷ l) (append_assoc name (32 ∷ param) (32 ∷ hex_text bytes)));
  are = (word, (param_word, (hex bytes h, tt)));
  read = rw (read, block_read bytes few h) refl;
}

message : (k : Kind) (bytes : Option (List ℕ)) → IsMessage k bytes → Shows (with_ k bytes)
unfolding bare_kind plain_kind data_kind
message kind.PutFullData bytes h = absurd h
message kind.Get bytes h = absurd h
message (kind.AcquireBlock p) None h = plain (codes "AcquireBlock") (grow_text p) (kind.AcquireBlock p) refl (is_word (codes "AcquireBlock") refl) (grow_word p) (rw (grow_read p) refl)
message (kind.ProbeBlock p) None h = plain (codes "ProbeBlock") (probe_cap_text p) (kind.ProbeBlock p) refl (is_word (codes "ProbeBlock") refl) (probe_word p) (rw (probe_read p) refl)
message (kind.ProbeAck p) None h = plain (codes "ProbeAck") (probe_report_text p) (kind.ProbeAck p) refl (is_word (codes "ProbeAck") refl) (report_word p) (rw (report_read p) refl)
message (kind.Release p) None h = plain (codes "Release") (prune_text p) (kind.Release p) refl (is_word (codes "Release") refl) (prune_word p) (rw (prune_read p) refl)
message (kind.Grant p) None h = plain (codes "Grant") (grant_cap_text p) (kind.Grant p) refl (is_word (codes "Grant") refl) (grant_word p) (rw (grant_read p) refl)
message kind.ReleaseAck None h = bare (codes "ReleaseAck") kind.ReleaseAck refl (is_word (codes "ReleaseAck") refl) refl
message kind.GrantAck None h = bare (codes "GrantAck") kind.GrantAck refl (is_word (codes "GrantAck") refl) refl
message (kind.ProbeAckData p) (Some bytes) h = data_ (codes "ProbeAckData") (dirty_prune_text p) bytes (kind.ProbeAckData p) refl (is_word (codes "ProbeAckData") refl) (dirty_word p) (rw (dirty_read p) refl) h.0 h.1
message (kind.ReleaseData p) (Some bytes) h = data_ (codes "ReleaseData") (dirty_prune_text p) bytes (kind.ReleaseData p) refl (is_word (codes "ReleaseData") refl) (dirty_word p) (rw (dirty_read p) refl) h.0 h.1
message (kind.GrantData p) (Some bytes) h = data_ (codes "GrantData") (grant_cap_text p) bytes (kind.GrantData p) refl (is_word (codes "GrantData") refl) (grant_word p) (rw (grant_read p) refl) h.0 h.1
message kind.AccessAck bytes h = absurd h
message kind.AccessAckData bytes h = absurd h
message (kind.AcquireBlock p) (Some bytes) h = cc
message (kind.ProbeBlock p) (Some bytes) h = cc
message (kind.ProbeAck p) (Some bytes) h = cc
message (kind.Release p) (Some bytes) h = cc
message (kind.Grant p) (Some bytes) h = cc
message kind.ReleaseAck (Some bytes) h = cc
message kind.GrantAck (Some bytes) h = cc
message (kind.ProbeAckData p) None h = absurd h
message (kind.ReleaseData p) None h = absurd h
message (kind.GrantData p) None h = absurd h

shows : (shown : Option Shown) → IsShowable shown → Shows shown
unfolding shown_of
shows None h = record { words = []; text = refl; are = tt; read = refl }
shows (Some shown) h = message shown.kind shown.bytes h

-- ## Lines

-- the words of the line of an event and of what it shows
line_words : (e : Event) (shown : Option Shown) (verb : List ℕ) (args : List (List ℕ)) (s : Shows shown) → list_all (λ c. not (eqb c 32)) verb ≡ true
    → AreWords args → event_text e ≡ verb ++ spaced args → words_of (event_text e ++ shown_text shown) ≡ verb ∷ (args ++ s.words)
line_words e shown verb args s word are text =
    let both : event_text e ++ shown_text shown ≡ verb ++ spaced (args ++ s.words) =
    ap (λ (t : List ℕ). t ++ shown_text shown) text ∙ append_assoc verb (spaced args) (shown_text shown)
    ∙ ap (λ (t : List ℕ). verb ++ (spaced args ++ t)) s.text ∙ ap (λ (t : List ℕ). verb ++ t) (sym (spaced_more args s.words)) in
    ap words_of both ∙ line verb (args ++ s.words) (is_word verb word) (both_words args s.words are s.are)

-- a client and a block are read back
client_read : (k : ClientCall) (c block : ℕ) (shown : Option Shown) (s : Shows shown) → c < 2 ^ 32 → block < 2 ^ 32
    → client_entry k (decimal c ∷ decimal block ∷ s.words) ≡ Ok (record { event = client_event k c block; shown = shown })
unfolding client_entry
client_read k c block shown s hc hb = rw (number_read c hc, number_read block hb, s.read) refl

-- the line of a client and a block
client_line : (e : Event) (verb : List ℕ) (k : ClientCall) (c block : ℕ) (shown : Option Shown) → IsShowable shown → (c < 2 ^ 32) × (block < 2 ^ 32)
    → event_text e ≡ verb ++ 32 ∷ pair_text c block → list_all (λ c. not (eqb c 32)) verb ≡ true
    → ((args : List (List ℕ)) → entry_in (verb ∷ args) ≡ client_entry k args)
    → entry_of (event_text e ++ shown_text shown) ≡ Ok (record { event = client_event k c block; shown = shown })
client_line e verb k c block shown showable h text word reads =
    let s = shows shown showable in
    let args : event_text e ≡ verb ++ spaced (decimal c ∷ decimal block ∷ []) =
    text ∙ rw (append-nil (decimal block)) (ap (λ (l : List ℕ). verb ++ 32 ∷ l) (append_assoc (decimal c) (codes " ") (decimal block))) in
    ap entry_in (line_words e shown verb (decimal c ∷ decimal block ∷ []) s word (number c h.0, (number block h.1, tt)) args)
    ∙ (reads (decimal c ∷ decimal block ∷ s.words) ∙ client_read k c block shown s h.0 h.1)

-- the words of the line of an event of which nothing is shown
alone_words : (e : Event) (verb : List ℕ) (args : List (List ℕ)) → list_all (λ c. not (eqb c 32)) verb ≡ true → AreWords args
    → event_text e ≡ verb ++ spaced args → words_of (event_text e ++ []) ≡ verb ∷ args
alone_words e verb args word are text = ap words_of (append-nil (event_text e) ∙ text) ∙ line verb args (is_word verb word) are

home_read : (k : HomeCall) (block : ℕ) → block < 2 ^ 32
    → home_entry k (decimal block ∷ []) ≡ Ok (record { event = home_event k block; shown = None })
unfolding home_entry
home_read k block h = rw (number_read block h) refl

-- the line of a block
home_line : (e : Event) (verb : List ℕ) (k : HomeCall) (block : ℕ) → block < 2 ^ 32
    → event_text e ≡ verb ++ 32 ∷ decimal block → list_all (λ c. not (eqb c 32)) verb ≡ true
    → ((args : List (List ℕ)) → entry_in (verb ∷ args) ≡ home_entry k args)
    → entry_of (event_text e ++ []) ≡ Ok (record { event = home_event k block; shown = None })
home_line e verb k block h text word reads =
    let args : event_text e ≡ verb ++ spaced (decimal block ∷ []) = text ∙ rw (append-nil (decimal block)) refl in
    ap entry_in (alone_words e verb (decimal block ∷ []) word (number block h, tt) args)
    ∙ (reads (decimal block ∷ []) ∙ home_read k block h)

-- the line of a client, a block and a parameter
param_line : (e : Event) (verb param : List ℕ) (c block : ℕ) (shown : Option Shown) (s : Shows shown) → (c < 2 ^ 32) × (block < 2 ^ 32) → IsWord param
    → event_text e ≡ verb ++ 32 ∷ (pair_text c block ++ 32 ∷ param) → list_all (λ c. not (eqb c 32)) verb ≡ true
    → entry_of (event_text e ++ shown_text shown) ≡ entry_in (verb ∷ decimal c ∷ decimal block ∷ param ∷ s.words)
param_line e verb param c block shown s h param_word text word =
    let joined : pair_text c block ++ 32 ∷ param ≡ decimal c ++ 32 ∷ (decimal block ++ 32 ∷ (param ++ [])) =
    rw (append-nil param) (append_assoc (decimal c ++ codes " ") (decimal block) (32 ∷ param)
    ∙ append_assoc (decimal c) (codes " ") (decimal block ++ 32 ∷ param)) in
    let args : event_text e ≡ verb ++ spaced (decimal c ∷ decimal block ∷ param ∷ []) = text ∙ ap (λ (l : List ℕ). verb ++ 32 ∷ l) joined in
    ap entry_in (line_words e shown verb (decimal c ∷ decimal block ∷ param ∷ []) s word (number c h.0, (number block h.1, (param_word, tt))) args)

acquire_line : (c block : ℕ) (g : Grow) (shown : Option Shown) → IsShowable shown → (c < 2 ^ 32) × (block < 2 ^ 32)
    → entry_of (event_text (event.SendAcquire c block g) ++ shown_text shown) ≡ Ok (record { event = event.SendAcquire c block g; shown = shown })
unfolding entry_in entry_by acquire_in
acquire_line c block g shown showable h =
    let s = shows shown showable in
    let read : acquire_in (decimal c ∷ decimal block ∷ grow_text g ∷ s.words) ≡ Ok (record { event = event.SendAcquire c block g; shown = shown }) =
    rw (number_read c h.0, number_read block h.1, grow_read g, s.read) refl in
    param_line (event.SendAcquire c block g) (codes "acquire") (grow_text g) c block shown s h (grow_word g)
    (ap (λ (l : List ℕ). codes "acquire " ++ l) (append_assoc (pair_text c block) (codes " ") (grow_text g))) refl ∙ read

release_line : (c block : ℕ) (p : Prune) (shown : Option Shown) → IsShowable shown → (c < 2 ^ 32) × (block < 2 ^ 32)
    → entry_of (event_text (event.SendRelease c block p) ++ shown_text shown) ≡ Ok (record { event = event.SendRelease c block p; shown = shown })
unfolding entry_in entry_by release_in
release_line c block p shown showable h =
    let s = shows shown showable in
    let read : release_in (decimal c ∷ decimal block ∷ prune_text p ∷ s.words) ≡ Ok (record { event = event.SendRelease c block p; shown = shown }) =
    rw (number_read c h.0, number_read block h.1, prune_read p, s.read) refl in
    param_line (event.SendRelease c block p) (codes "release") (prune_text p) c block shown s h (prune_word p)
    (ap (λ (l : List ℕ). codes "release " ++ l) (append_assoc (pair_text c block) (codes " ") (prune_text p))) refl ∙ read

probe_line : (c block : ℕ) (p : ProbeCap) (shown : Option Shown) → IsShowable shown → (c < 2 ^ 32) × (block < 2 ^ 32)
    → entry_of (event_text (event.SendProbe c block p) ++ shown_text shown) ≡ Ok (record { event = event.SendProbe c block p; shown = shown })
unfolding entry_in entry_by probe_in
probe_line c block p shown showable h =
    let s = shows shown showable in
    let read : probe_in (decimal c ∷ decimal block ∷ probe_cap_text p ∷ s.words) ≡ Ok (record { event = event.SendProbe c block p; shown = shown }) =
    rw (number_read c h.0, number_read block h.1, probe_read p, s.read) refl in
    param_line (event.SendProbe c block p) (codes "probe") (probe_cap_text p) c block shown s h (probe_word p)
    (ap (λ (l : List ℕ). codes "probe " ++ l) (append_assoc (pair_text c block) (codes " ") (probe_cap_text p))) refl ∙ read

-- three words
three : (x y z : List ℕ) → x ++ (codes " " ++ y ++ codes " " ++ z) ≡ x ++ 32 ∷ (y ++ 32 ∷ z)
three x y z = ap (λ (l : List ℕ). x ++ 32 ∷ l) (append_assoc y (codes " ") z)

-- the line of an access
access_line : (e : Event) (verb : List ℕ) (a : Access) → HasWords a
    → event_text e ≡ verb ++ 32 ∷ access_text a → list_all (λ c. not (eqb c 32)) verb ≡ true
    → entry_of (event_text e ++ []) ≡ entry_in (verb ∷ decimal a.client ∷ address_text a.address ∷ hex_text a.bytes ∷ [])
access_line e verb a h text word =
    let args : event_text e ≡ verb ++ spaced (decimal a.client ∷ address_text a.address ∷ hex_text a.bytes ∷ []) =
    text ∙ rw (append-nil (hex_text a.bytes)) (ap (λ (l : List ℕ). verb ++ 32 ∷ l) (three (decimal a.client) (address_text a.address) (hex_text a.bytes))) in
    ap entry_in (alone_words e verb (decimal a.client ∷ address_text a.address ∷ hex_text a.bytes ∷ []) word
    (number a.client h.client, (address a.address, (hex a.bytes h.bytes, tt))) args)

words_read : (a : Access) → HasWords a → access_in (decimal a.client ∷ address_text a.address ∷ hex_text a.bytes ∷ []) ≡ Ok (plain_access a)
unfolding access_in
words_read a h = rw (number_read a.client h.client, address_read a.address h.address, access_read a h) refl

load_line : (a : Access) → HasWords a → entry_of (event_text (event.Load a) ++ []) ≡ Ok (record { event = event.Load (plain_access a); shown = None })
unfolding entry_in entry_by
load_line a h = access_line (event.Load a) (codes "load") a h refl refl ∙ ap (λ (o : Result Access Cause). with_access event.Load o) (words_read a h)

store_line : (a : Access) → HasWords a → entry_of (event_text (event.Store a) ++ []) ≡ Ok (record { event = event.Store (plain_access a); shown = None })
unfolding entry_in entry_by
store_line a h = access_line (event.Store a) (codes "store") a h refl refl ∙ ap (λ (o : Result Access Cause). with_access event.Store o) (words_read a h)

-- ## Entries

-- the line of an event and what it shows
read : (e : Event) (shown : Option Shown) → HasLine e → MayShow e shown
    → entry_of (event_text e ++ shown_text shown) ≡ Ok (record { event = plain_event e; shown = shown })
unfolding entry_in entry_by
read (event.Load a) None h m = load_line a h
read (event.Load a) (Some shown) h m = cc
read (event.Store a) None h m = store_line a h
read (event.Store a) (Some shown) h m = cc
read (event.SendAcquire c b g) shown h m = acquire_line c b g shown m h
read (event.SendRelease c b p) shown h m = release_line c b p shown m h
read (event.SendProbe c b p) shown h m = probe_line c b p shown m h
read (event.AnswerProbe c b) shown h m = client_line (event.AnswerProbe c b) (codes "answer_probe") call.AnswerProbe c b shown m h refl refl (λ args. refl)
read (event.TakeGrant c b) shown h m = client_line (event.TakeGrant c b) (codes "take_grant") call.TakeGrant c b shown m h refl refl (λ args. refl)
read (event.TakeReleaseAck c b) shown h m = client_line (event.TakeReleaseAck c b) (codes "take_release_ack") call.TakeReleaseAck c b shown m h refl refl (λ args. refl)
read (event.AcceptAcquire c b) shown h m = client_line (event.AcceptAcquire c b) (codes "accept") call.AcceptAcquire c b shown m h refl refl (λ args. refl)
read (event.TakeC c b) shown h m = client_line (event.TakeC c b) (codes "take_c") call.TakeC c b shown m h refl refl (λ args. refl)
read (event.SendGrant c b) shown h m = client_line (event.SendGrant c b) (codes "grant") call.SendGrant c b shown m h refl refl (λ args. refl)
read (event.TakeGrantAck c b) shown h m = client_line (event.TakeGrantAck c b) (codes "take_grant_ack") call.TakeGrantAck c b shown m h refl refl (λ args. refl)
read (event.SendGet b) None h m = home_line (event.SendGet b) (codes "get") home.SendGet b h refl refl (λ args. refl)
read (event.Serve b) None h m = home_line (event.Serve b) (codes "serve") home.Serve b h refl refl (λ args. refl)
read (event.TakeData b) None h m = home_line (event.TakeData b) (codes "take_data") home.TakeData b h refl refl (λ args. refl)
read (event.Drop b) None h m = home_line (event.Drop b) (codes "drop") home.Drop b h refl refl (λ args. refl)
read (event.SendPut b) None h m = home_line (event.SendPut b) (codes "put") home.SendPut b h refl refl (λ args. refl)
read (event.TakePutAck b) None h m = home_line (event.TakePutAck b) (codes "take_put_ack") home.TakePutAck b h refl refl (λ args. refl)
read (event.SendGet b) (Some shown) h m = cc
read (event.Serve b) (Some shown) h m = cc
read (event.TakeData b) (Some shown) h m = cc
read (event.Drop b) (Some shown) h m = cc
read (event.SendPut b) (Some shown) h m = cc
read (event.TakePutAck b) (Some shown) h m = cc

pub entry_read : (entry : Entry) → HasLine entry.event → MayShow entry.event entry.shown → entry_of (entry_text entry) ≡ Ok (plain_entry entry)
entry_read entry h m = read entry.event entry.shown h m

-- of an event alone nothing is shown
may_show : (e : Event) → MayShow e None
may_show (event.Load a) = refl
may_show (event.Store a) = refl
may_show (event.SendAcquire c b g) = tt
may_show (event.SendRelease c b p) = tt
may_show (event.AnswerProbe c b) = tt
may_show (event.TakeGrant c b) = tt
may_show (event.TakeReleaseAck c b) = tt
may_show (event.AcceptAcquire c b) = tt
may_show (event.SendProbe c b p) = tt
may_show (event.TakeC c b) = tt
may_show (event.SendGrant c b) = tt
may_show (event.TakeGrantAck c b) = tt
may_show (event.SendGet b) = refl
may_show (event.Serve b) = refl
may_show (event.TakeData b) = refl
may_show (event.Drop b) = refl
may_show (event.SendPut b) = refl
may_show (event.TakePutAck b) = refl

pub event_read : (e : Event) → HasLine e → entry_of (event_text e) ≡ Ok (record { event = plain_event e; shown = None })
event_read e h = ap (λ (t : List ℕ). entry_of t) (sym (append-nil (event_text e))) ∙ read e None h (may_show e)
