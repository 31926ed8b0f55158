use Rattle.connection.proofs.TalkLines.{talk_served, talk_told}
use Rattle.connection.proofs.Talking.{talk_grows}
use Rattle.connection.proofs.laws.each_talk_is_served.Goals as goal

pub returns : goal.returns
returns g c = record {
  served = λ id opening history caller heard sent how sound talk. talk_served (g.C.Clock.gives c.args.clock.now) id opening history caller heard sent how sound talk;
  ticks = λ id opening history caller heard sent how sound talk. talk_told (g.C.Clock.gives c.args.clock.now) id opening history caller heard sent how sound talk;
  grows = λ id opening history more caller heard sent how none talk. talk_grows (g.C.Clock.gives c.args.clock.now) id opening history more caller heard sent how none talk;
}
