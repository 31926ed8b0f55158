use Rattle.std.proofs.Common.{ℕ, List, refl}
use Rattle.model_value.specs.Payload.{payload_spelling}
use Rattle.model_value.specs.View.{plain}
use Rattle.system_core.proofs.PartTurns.{publish-absent, publish-refused, publish-takes, too-long, too-many}
use Rattle.system_core.proofs.parts.Parts.publish.Goals as goal

pub returns-in_default : goal.returns-in_default
returns-in_default c =
    publish-absent c.args.self.now c.args.view _ c.requires.sound c.in_default.ensures

pub returns-in-Ok : goal.returns-in-Ok
returns-in-Ok c =
    let is = c.in-Ok.ensures.publishes in
    publish-takes c.args.self.now _ c.in-Some.place c.args.view c.index_mut.result.now _ c.publish.new.self c.requires.sound c.in-Some.ensures c.index_mut.ensures.value is.0 is.1 c.in-Ok.ensures.session is.3 refl refl refl refl refl

pub returns-in-Err-TooLong : goal.returns-in-Err-TooLong
returns-in-Err-TooLong c =
    let payload : List ℕ = payload_spelling (record { scope = c.args.scope.now; event = c.args.event.now; value = plain c.args.value.now }) in
    let is = rw c.in-Err-TooLong.field-0-is at c.in-Err-TooLong.ensures.publishes in
    publish-refused c.args.self.now _ c.in-Some.place c.args.view c.index_mut.result.now payload c.publish.new.self c.requires.sound c.in-Some.ensures c.index_mut.ensures.value
    (too-long c.index_mut.result.now.replica.plain payload is.0) c.in-Err-TooLong.ensures.session is.2 refl refl refl refl refl

pub returns-in-Err-Full : goal.returns-in-Err-Full
returns-in-Err-Full c =
    let payload : List ℕ = payload_spelling (record { scope = c.args.scope.now; event = c.args.event.now; value = plain c.args.value.now }) in
    let is = rw c.in-Err-Full.field-0-is at c.in-Err-Full.ensures.publishes in
    publish-refused c.args.self.now _ c.in-Some.place c.args.view c.index_mut.result.now payload c.publish.new.self c.requires.sound c.in-Some.ensures c.index_mut.ensures.value
    (too-many c.index_mut.result.now.replica.plain payload is.0 is.1) c.in-Err-Full.ensures.session is.3 refl refl refl refl refl
