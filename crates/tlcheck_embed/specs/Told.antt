-- What is told of an entry (this project's own numbers).
use Rattle.std.specs.Prelude.{ℕ, ◌-◌, List, ◌++◌, length, replicate, is_some, if◌then◌else◌}
use Rattle.tl_types.specs.declared.limits.TheConstants.{BLOCK_BYTES}
use Rattle.tl_types.specs.Codes.{code_of}
use Rattle.tl_types.specs.declared.kind.Kind.{Kind}
use Rattle.tl_types.specs.declared.permission.Perm.{Perm}
use Rattle.tl_types.specs.declared.permission.Perm.TheVariants as perm
use Rattle.tl_protocol.specs.Copy.{perm_of}
use Rattle.tl_protocol.specs.declared.event.Event.{Event}
use Rattle.tlcheck_rules.specs.Judged.{JudgeState, own_block}
use Rattle.tlcheck_rules.specs.Rules.{client_of}
use Rattle.tlcheck_rules.specs.declared.difference.Difference.{Difference}
use Rattle.tlcheck_rules.specs.declared.difference.Difference.TheVariants as d
use Rattle.tlcheck_rules.specs.declared.judge.Breach.{Breach}
use Rattle.tlcheck_rules.specs.declared.judge.Breach.TheVariants.{NotPermitted, OutOfOrder, NotAsShown}
use Rattle.tlcheck_rules.specs.declared.rule.Rule.{Rule}
use Rattle.tlcheck_rules.specs.declared.rule.Rule.TheVariants as r
use Rattle.tlcheck_embed.specs.declared.verdict.Verdict.{Verdict}

-- nothing is told but a status
abbrev pub only : ℕ → Verdict
only status = record {
  status = status;
  rule = 0;
  opcode = 0;
  param = 0;
  len = 0;
  perm = 0;
  is_at_home = 0;
  why = 0;
  bytes = replicate BLOCK_BYTES 0;
}

-- the number of a permission
abbrev pub perm_number : Perm → ℕ
perm_number perm.None = 0
perm_number perm.Branch = 1
perm_number perm.Tip = 2

-- the number of a rule
abbrev pub rule_number : Rule → ℕ
rule_number r.BlockIsThere = 1
rule_number r.ClientIsThere = 2
rule_number r.AccessFits = 3
rule_number r.CopyIsReadable = 4
rule_number r.LoadHasItsBytes = 5
rule_number r.CopyIsWritable = 6
rule_number r.NoAcquireUnanswered = 7
rule_number r.NoReleaseBesideAcquire = 8
rule_number r.StartsFromItsCopy = 9
rule_number r.ProbeWaits = 10
rule_number r.NoReleaseUnanswered = 11
rule_number r.GrantIsFirst = 12
rule_number r.ReleaseAckIsFirst = 13
rule_number r.AcquireWaits = 14
rule_number r.ServesNoAcquire = 15
rule_number r.RecordIsAbove = 16
rule_number r.ClientHasNoProbe = 17
rule_number r.NoGrantIsPending = 18
rule_number r.OneGrantIsPending = 19
rule_number r.MessageIsOnC = 20
rule_number r.ServesThisClient = 21
rule_number r.OthersLeaveRoom = 22
rule_number r.HomeHasTheBlock = 23
rule_number r.NoProbeIsPending = 24
rule_number r.NothingIsPending = 25
rule_number r.GrantAckWaits = 26
rule_number r.ServesAnAcquire = 27
rule_number r.HomeLacksTheBlock = 28
rule_number r.NothingIsOutward = 29
rule_number r.RequestIsOutward = 30
rule_number r.DataIsOutward = 31
rule_number r.PutAckIsOutward = 32
rule_number r.CopyIsClean = 33
rule_number r.CopyIsDirty = 34
rule_number r.NobodyIsRecorded = 35

-- the number of a way in which what is shown differs from what is sent; 36 is that of the order of a channel
abbrev pub difference_number : Difference → ℕ
difference_number d.NothingIsSent = 37
difference_number (d.OtherMessage sent) = 38
difference_number (d.OtherParam sent) = 39
difference_number (d.DataIsMissing sent) = 40
difference_number (d.DataIsExtra sent) = 41
difference_number (d.OtherBytes sent shown) = 42

-- not permitted, by a rule and the kind of message that is sent
abbrev pub kind_told : ℕ → Kind → Verdict
kind_told rule sent = record (only 31) { rule = rule; opcode = (code_of sent).0; param = (code_of sent).1 }

-- not permitted, by a rule and the bytes that are sent
abbrev pub other_bytes_told : ℕ → List ℕ → Verdict
other_bytes_told rule sent =
    record (only 31) { rule = rule; len = length sent; bytes = sent ++ replicate (BLOCK_BYTES - length sent) 0 }

-- how what is shown differs, with what is sent
abbrev pub difference_told : Difference → Verdict
difference_told d.NothingIsSent = record (only 31) { rule = 37 }
difference_told (d.OtherMessage sent) = kind_told 38 sent
difference_told (d.OtherParam sent) = kind_told 39 sent
difference_told (d.DataIsMissing sent) = kind_told 40 sent
difference_told (d.DataIsExtra sent) = kind_told 41 sent
difference_told (d.OtherBytes sent shown) = other_bytes_told 42 sent

-- not permitted, and what is broken first
abbrev pub breach_told : Breach → Verdict
breach_told (NotPermitted rule) = record (only 31) { rule = rule_number rule }
breach_told OutOfOrder = record (only 31) { rule = 36 }
breach_told (NotAsShown difference) = difference_told difference

-- the same with what the judge knows of the event's client and block: what the client may do with it, and whether home has a copy
abbrev pub with_state : JudgeState → Event → Verdict → Verdict
with_state judge e told =
    record told {
      perm = perm_number (perm_of ((own_block judge e).client (client_of e)).held);
      is_at_home = if is_some (own_block judge e).home then 1 else 0;
    }
