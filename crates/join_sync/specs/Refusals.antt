-- The frames that tell a view that one of its frames was refused.
use Rattle.std.specs.Prelude.{ℕ}
use Rattle.reflector_core.specs.declared.request.Refusal.{Refusal}
use Rattle.reflector_core.specs.declared.request.Refusal.TheVariants.{Stale, TooLong, Differs, Gap, LogFull, TimeEnd, ViewsFull, BadView, Ahead, Older, NoSuchSeq}
use Rattle.wire_frames.specs.declared.code.RefusalCode.{RefusalCode}
use Rattle.wire_frames.specs.declared.code.RefusalCode.TheVariants as code
use Rattle.wire_frames.specs.declared.frame.ClientFrame.{ClientFrame}
use Rattle.wire_frames.specs.declared.frame.ServerFrame.{ServerFrame}
use Rattle.wire_frames.specs.declared.frame.ServerFrame.TheVariants.{Refused}
use Rattle.wire_frames.specs.declared.tags.TheConstants.{JOIN_TAG}
use Rattle.wire_frames.specs.Codes.{code_number}
use Rattle.wire_frames.specs.Spelling.{client_tag}
use Rattle.join_sync.specs.declared.early.Early.{Early}
use Rattle.join_sync.specs.declared.early.Early.TheVariants.{OtherSession, NotJoined}

-- the session refused the request of a frame with this tag: the code of the refusal, and what it carries
abbrev pub refused_frame : ℕ → Refusal → ServerFrame
refused_frame about (Stale current) = Refused about (code_number code.Stale) current 0
refused_frame about (TooLong len) = Refused about (code_number code.TooLong) len 0
refused_frame about (Differs seq) = Refused about (code_number code.Differs) seq 0
refused_frame about (Gap expected) = Refused about (code_number code.Gap) expected 0
refused_frame about (LogFull entries bytes) = Refused about (code_number code.LogFull) entries bytes
refused_frame about (TimeEnd horizon) = Refused about (code_number code.TimeEnd) horizon 0
refused_frame about (ViewsFull here) = Refused about (code_number code.ViewsFull) here 0
refused_frame about BadView = Refused about (code_number code.BadView) 0 0
refused_frame about (Ahead horizon) = Refused about (code_number code.Ahead) horizon 0
refused_frame about (Older kept) = Refused about (code_number code.Older) kept 0
refused_frame about (NoSuchSeq len) = Refused about (code_number code.NoSuchSeq) len 0

abbrev pub early_code : Early → RefusalCode
early_code OtherSession = code.OtherSession
early_code NotJoined = code.NotJoined

-- the first frame of a connection was refused before the session was asked
abbrev pub early_frame : Early → ClientFrame → ServerFrame
early_frame early first = Refused (client_tag first) (code_number (early_code early)) 0 0

-- a view that has joined sent another JOIN
abbrev pub second_join_frame : ServerFrame
second_join_frame = Refused JOIN_TAG (code_number code.AlreadyJoined) 0 0
