-- The program of the drill.
use Rattle.std.specs.Prelude.{◌≡◌, ℕ, List, codes}
use Rattle.model_value.specs.Plain.{nil}
use Rattle.model_solved.specs.Founding.{Founding}
use Rattle.model_tree.specs.Program.{IsRead}

-- the name of the session
abbrev pub drill_name : List ℕ
drill_name = codes "drill"

-- the text: it adds what views send, and tells the sum at each sixteenth event
abbrev pub drill_text : List ℕ
drill_text = codes "class Root{field total;field n;init(o){this.total=0;this.n=0;subscribe(\"drill\",\"add\",\"add\");}add(v){this.total=this.total+v;this.n=this.n+1;if(this.n%16==0){this.future(1).mark();}}mark(){publish(\"drill\",\"mark\",this.total);}}"

-- the one tree that the text is read as, without a persisted value
abbrev pub IsDrillProgram : Founding → Type 0
IsDrillProgram founding = IsRead drill_text founding.tree × (founding.persisted ≡ nil)
