use Rattle.std.proofs.Common.{refl}
use Rattle.host_posts.proofs.serving.serve_next.Goals as goal

pub returns-clause-served : goal.returns-clause-served
returns-clause-served g c = λ ids all.
    let told = c.back.ensures in
    record {
      one = c.serve_one-session.result;
      served = c.serve_one-session.ensures.served ids all;
      back = record { lent = told.lent; over = told.over; counts = told.counts; coming = told.coming; asked = refl; faults = told.faults };
      counts = c.with_end-post.ensures;
    }
