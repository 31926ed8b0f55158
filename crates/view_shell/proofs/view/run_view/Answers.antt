use Rattle.std.proofs.Common.{None, refl}
use Rattle.std.specs.Arc.{arc_value}
use Rattle.model_solved.specs.Founding.{founding_of}
use Rattle.run_steps.specs.Outside.{net_side, net_side_tells, links_tell, net_tells, output_tells}
use Rattle.view_script.specs.PlainLine.{plain_lines}
use Rattle.view_shell.specs.declared.ending.ViewEnd.TheVariants as ending
use Rattle.view_shell.specs.Viewers.{first_phase}
use Rattle.view_shell.proofs.Going.{wants}
use Rattle.view_shell.proofs.Visits.{over_without_link}
use Rattle.view_shell.proofs.view.run_view.Goals as goal

pub returns-in_default : goal.returns-in_default
returns-in_default g c =
    let out = output_tells g.W.Sink in
    let net = net_tells g.N.Net in
    let links = links_tell g.N.Conn.Link in
    let visit = c.args.visit.now in
    let start = first_phase (founding_of (arc_value visit.program)) visit.id.0 visit.view visit.address (plain_lines visit.script) in
    let old = net_side c.args.out.now c.args.net.now None in
    record { ran = over_without_link out net links start ending.WantOfMemory old c.args.out.now c.args.net.now (wants (net_side_tells out net links) start ending.WantOfMemory old refl) }

pub returns-in_default-clone : goal.returns-in_default-clone
returns-in_default-clone g c =
    let out = output_tells g.W.Sink in
    let net = net_tells g.N.Net in
    let links = links_tell g.N.Conn.Link in
    let visit = c.args.visit.now in
    let start = first_phase (founding_of (arc_value visit.program)) visit.id.0 visit.view visit.address (plain_lines visit.script) in
    let old = net_side c.args.out.now c.args.net.now None in
    record { ran = over_without_link out net links start ending.WantOfMemory old c.args.out.now c.args.net.now (wants (net_side_tells out net links) start ending.WantOfMemory old refl) }

pub returns-in-Err : goal.returns-in-Err
returns-in-Err g c =
    let out = output_tells g.W.Sink in
    let net = net_tells g.N.Net in
    let links = links_tell g.N.Conn.Link in
    let visit = c.args.visit.now in
    let start = first_phase (founding_of (arc_value visit.program)) visit.id.0 visit.view visit.address (plain_lines visit.script) in
    let old = net_side c.args.out.now c.args.net.now None in
    record { ran = over_without_link out net links start ending.WantOfMemory old c.args.out.now c.args.net.now (wants (net_side_tells out net links) start ending.WantOfMemory old refl) }
