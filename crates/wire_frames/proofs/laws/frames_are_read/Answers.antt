use Rattle.byte_fields.proofs.Codecs.{whole_again}
use Rattle.wire_frames.proofs.ClientCodec.{client_codec}
use Rattle.wire_frames.proofs.ServerCodec.{server_codec}
use Rattle.wire_frames.proofs.laws.frames_are_read.Goals as goal

pub returns-clause-server : goal.returns-clause-server
returns-clause-server c = λ frame is. whole_again server_codec frame is

pub returns-clause-client : goal.returns-clause-client
returns-clause-client c = λ frame is. whole_again client_codec frame is
