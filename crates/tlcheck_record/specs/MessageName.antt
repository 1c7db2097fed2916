-- The names of all messages of TileLink (1.8, section 6).
use Rattle.std.specs.Prelude.{ℕ, List, codes}
use Rattle.tlcheck_record.specs.declared.message_name.MessageName.{MessageName}
use Rattle.tlcheck_record.specs.declared.message_name.MessageName.TheVariants as its

-- as it prints
abbrev pub message_name_text : MessageName → List ℕ
message_name_text its.PutFullData = codes "PutFullData"
message_name_text its.PutPartialData = codes "PutPartialData"
message_name_text its.ArithmeticData = codes "ArithmeticData"
message_name_text its.LogicalData = codes "LogicalData"
message_name_text its.Get = codes "Get"
message_name_text its.Intent = codes "Intent"
message_name_text its.AcquireBlock = codes "AcquireBlock"
message_name_text its.AcquirePerm = codes "AcquirePerm"
message_name_text its.ProbeBlock = codes "ProbeBlock"
message_name_text its.ProbePerm = codes "ProbePerm"
message_name_text its.AccessAck = codes "AccessAck"
message_name_text its.AccessAckData = codes "AccessAckData"
message_name_text its.HintAck = codes "HintAck"
message_name_text its.ProbeAck = codes "ProbeAck"
message_name_text its.ProbeAckData = codes "ProbeAckData"
message_name_text its.Release = codes "Release"
message_name_text its.ReleaseData = codes "ReleaseData"
message_name_text its.Grant = codes "Grant"
message_name_text its.GrantData = codes "GrantData"
message_name_text its.ReleaseAck = codes "ReleaseAck"
message_name_text its.GrantAck = codes "GrantAck"
