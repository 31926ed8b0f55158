-- What steps do to the outside: files, an output, a net and the link that is in use.
use Rattle.std.specs.Prelude.{◌≡◌, ◌≢◌, ◌⊎◌, ℕ, ⊤, ◌+◌, ◌≤◌, ◌<◌, List, [], ◌∷◌, length, Option, Some, None, Result, Ok, Err}
use Rattle.tea_io.specs.Files.{Content, Untold, Absent, Present, MayBe, Holds}
use Rattle.tea_io.specs.Links.{Counts, no_counts, note_of, TakesFrame, NoneFalls, CountRises, Sends as HasSent, SendCause}
use Rattle.tea_io.specs.Nets.{plus, AsksNet, NetCause}
use Rattle.tea_io.specs.Sink.{GrowsWithin}
use Rattle.tea_io.specs.Told.{with_more, Rose, TakesFirst}
use Rattle.tea_io.specs.declared.files.FileCall.{FileCall}
use Rattle.tea_io.specs.declared.files.Files.{Ghosts as OfFiles}
use Rattle.tea_io.specs.declared.files.FileCall.TheVariants as call
use Rattle.tea_io.specs.declared.link.Heard.{Heard}
use Rattle.tea_io.specs.declared.link.Link.{Ghosts as OfLink}
use Rattle.tea_io.specs.declared.link.Heard.TheVariants as heard
use Rattle.tea_io.specs.declared.link.LinkFault.{LinkFault}
use Rattle.tea_io.specs.declared.link.LinkFault.TheVariants as link_fault
use Rattle.tea_io.specs.declared.net.Net.{Ghosts as OfNet}
use Rattle.tea_io.specs.declared.net.NetCall.{NetCall}
use Rattle.tea_io.specs.declared.net.NetCall.TheVariants as net_call
use Rattle.tea_io.specs.declared.net.NetFault.{NetFault}
use Rattle.tea_io.specs.declared.net.NetFault.TheVariants as net_fault
use Rattle.tea_io.specs.declared.sink.Sink.{Ghosts as OfSink}
use Rattle.run_steps.specs.Steps.{Ask, Step, Loads, Puts, Looks, Prints, Connects, Returns, Hears, Sends}

-- the outside of a run, in one of its states: files, an output, a net, and the link that it gave and that is in use
pub record Outside (F W N L : Type 0) : Type 0 where
  pub files : F
  pub out : W
  pub net : N
  pub link : Option L

abbrev pub outside : {F W N L : Type 0} → F → W → N → Option L → Outside F W N L
outside files out net link = record { files = files; out = out; net = net; link = link }

-- ---- what each part tells in each of its states

-- what stands under a name, the calls so far, and how often one has failed, or wanted memory
pub record FilesTell (F : Type 0) : Type 0 where
  pub held : F → List ℕ → Content
  pub asked : F → Option (List FileCall)
  pub faults : F → ℕ
  pub wants : F → ℕ

-- what was written, and how often a write has failed, or wanted memory
pub record OutputTells (W : Type 0) : Type 0 where
  pub written : W → Option (List ℕ)
  pub faults : W → ℕ
  pub wants : W → ℕ

-- the links to come and those that were given back, the calls so far, how often one has failed, how many links are in use, and the sums
-- of the counts of those that were given back
pub record NetTells (N L : Type 0) : Type 0 where
  pub coming : N → Option (List L)
  pub over : N → Option (List L)
  pub asked : N → Option (List NetCall)
  pub faults : N → ℕ
  pub lent : N → ℕ
  pub link_counts : N → Counts

-- the frames to come, what was heard, the frames that were sent, and how often it failed, was quiet and said that it has ended
pub record LinksTell (L : Type 0) : Type 0 where
  pub coming : L → Option (List (List ℕ))
  pub heard : L → Option (List Heard)
  pub sent : L → Option (List (List ℕ))
  pub counts : L → Counts

-- all that the outside tells; a run may be without files, and without a net and its links
pub record OutsideTells (F W N L : Type 0) : Type 0 where
  pub files : Option (FilesTell F)
  pub out : OutputTells W
  pub net : Option (NetTells N L)
  pub links : Option (LinksTell L)

-- each of them as its trait tells it
abbrev pub files_tell : {F : Type 0} → OfFiles F → FilesTell F
files_tell f = record { held = f.held; asked = f.asked; faults = f.faults; wants = f.wants }

abbrev pub output_tells : {W : Type 0} → OfSink W → OutputTells W
output_tells w = record { written = w.written; faults = w.faults; wants = w.wants }

abbrev pub net_tells : {N L : Type 0} → OfNet N L → NetTells N L
net_tells n = record {
  coming = n.coming;
  over = n.over;
  asked = n.asked;
  faults = n.faults;
  lent = n.lent;
  link_counts = n.link_counts;
}

abbrev pub links_tell : {L : Type 0} → OfLink L → LinksTell L
links_tell l = record { coming = l.coming; heard = l.heard; sent = l.sent; counts = l.counts }

-- a run over files and an output alone
abbrev pub files_side_tells : {F W : Type 0} → FilesTell F → OutputTells W → OutsideTells F W ⊤ ⊤
files_side_tells files out = record { files = Some files; out = out; net = None; links = None }

abbrev pub files_side : {F W : Type 0} → F → W → Outside F W ⊤ ⊤
files_side files out = outside files out tt None

-- over an output and a link alone
abbrev pub link_side_tells : {W L : Type 0} → OutputTells W → LinksTell L → OutsideTells ⊤ W ⊤ L
link_side_tells out links = record { files = None; out = out; net = None; links = Some links }

abbrev pub link_side : {W L : Type 0} → W → L → Outside ⊤ W ⊤ L
link_side out link = outside tt out tt (Some link)

-- over an output and a net
abbrev pub net_side_tells : {W N L : Type 0} → OutputTells W → NetTells N L → LinksTell L → OutsideTells ⊤ W N L
net_side_tells out net links = record { files = None; out = out; net = Some net; links = Some links }

abbrev pub net_side : {W N L : Type 0} → W → N → Option L → Outside ⊤ W N L
net_side out net link = outside tt out net link

-- over all
abbrev pub outside_tells : {F W N L : Type 0} → FilesTell F → OutputTells W → NetTells N L → LinksTell L
    → OutsideTells F W N L
outside_tells files out net links = record { files = Some files; out = out; net = Some net; links = Some links }

-- ---- one call

-- how a call came out
pub data Came : Type 0 where
  Well : Came
  Failed : Came
  WantedMemory : Came

-- ---- files

-- a call is noted; one that wanted memory may be left out
abbrev pub Noted : Came → FileCall → Option (List FileCall) → Option (List FileCall) → Type 0
Noted WantedMemory made old new = (new ≡ old) ⊎ (new ≡ with_more old (made ∷ []))
Noted came made old new = new ≡ with_more old (made ∷ [])

-- a count of faults does not fall, and rises where a call failed
abbrev pub CountsFault : Came → ℕ → ℕ → Type 0
CountsFault Failed before now = (before ≤ now) × Rose before now
CountsFault came before now = before ≤ now

-- and a count of wants rises where memory was wanted
abbrev pub CountsWant : Came → ℕ → ℕ → Type 0
CountsWant WantedMemory before now = (before ≤ now) × Rose before now
CountsWant came before now = before ≤ now

abbrev pub AreKept : (List ℕ → Content) → (List ℕ → Content) → Type 0
AreKept old new = (name : List ℕ) → new name ≡ old name

-- what stands there is longer
abbrev pub IsLonger : Content → ℕ → Type 0
IsLonger Untold limit = ⊤
IsLonger Absent limit = ⊥
IsLonger (Present bytes) limit = limit < length bytes

-- what a read that went well gives: bytes that may stand there, within the limit, or that they are above it
abbrev pub MayGive : Came → Content → ℕ → Option (List ℕ) → Type 0
MayGive Well content limit None = IsLonger content limit
MayGive Well content limit (Some bytes) = MayBe content bytes × (length bytes ≤ limit)
MayGive came content limit given = ⊤

-- Bytes are put under a name, and all other names keep what they hold. Where the call failed, what this name holds is open; where
-- memory was wanted, it keeps what it holds too.
abbrev pub HeldAfter : Came → List ℕ → List ℕ → (List ℕ → Content) → (List ℕ → Content) → Type 0
HeldAfter Well name bytes old new =
    Holds (old name) (new name) bytes × ((other : List ℕ) → other ≢ name → new other ≡ old other)
HeldAfter Failed name bytes old new = (other : List ℕ) → other ≢ name → new other ≡ old other
HeldAfter WantedMemory name bytes old new = AreKept old new

-- a file is read: all names keep what they hold
pub record ReadsFile {F : Type 0} (files : FilesTell F) (came : Came) (ask : Ask) (given : Option (List ℕ))
    (old new : F) : Type 0 where
  pub noted : Noted came (call.Read ask.name) (files.asked old) (files.asked new)
  pub counted : CountsFault came (files.faults old) (files.faults new)
  pub wanted : CountsWant came (files.wants old) (files.wants new)
  pub kept : AreKept (files.held old) (files.held new)
  pub gave : MayGive came (files.held old ask.name) ask.limit given

-- a file is written
pub record PutsFile {F : Type 0} (files : FilesTell F) (came : Came) (name bytes : List ℕ) (old new : F) : Type 0 where
  pub noted : Noted came (call.Write name) (files.asked old) (files.asked new)
  pub counted : CountsFault came (files.faults old) (files.faults new)
  pub wanted : CountsWant came (files.wants old) (files.wants new)
  pub held : HeldAfter came name bytes (files.held old) (files.held new)

-- it is looked at a name: all names keep what they hold
pub record LooksAt {F : Type 0} (files : FilesTell F) (came : Came) (name : List ℕ) (old new : F) : Type 0 where
  pub noted : Noted came (call.Look name) (files.asked old) (files.asked new)
  pub counted : CountsFault came (files.faults old) (files.faults new)
  pub wanted : CountsWant came (files.wants old) (files.wants new)
  pub kept : AreKept (files.held old) (files.held new)

-- ---- the output

-- a text is written whole, or a first part of it
abbrev pub WrittenAfter : Came → List ℕ → Option (List ℕ) → Option (List ℕ) → Type 0
WrittenAfter Well text old new = new ≡ with_more old text
WrittenAfter came text old new = GrowsWithin old new text

-- a text is written to the output
pub record PrintsText {W : Type 0} (out : OutputTells W) (came : Came) (text : List ℕ) (old new : W) : Type 0 where
  pub written : WrittenAfter came text (out.written old) (out.written new)
  pub counted : CountsFault came (out.faults old) (out.faults new)
  pub wanted : CountsWant came (out.wants old) (out.wants new)

-- ---- the net

-- what a call of a net answered
abbrev pub net_answer : Came → Result ⊤ NetFault
net_answer Well = Ok tt
net_answer Failed = Err net_fault.Failed
net_answer WantedMemory = Err net_fault.WantOfMemory

-- the first link of those to come is in use, and its counts begin at 0; a call that came to nothing gives none
abbrev pub GivesLink : {N L : Type 0} → NetTells N L → LinksTell L → Came → N → N → Option L → Type 0
GivesLink net links Well old new None = ⊥
GivesLink net links Well old new (Some link) =
    TakesFirst (net.coming old) (net.coming new) link × (links.counts link ≡ no_counts)
    × (net.lent new ≡ net.lent old + 1)
GivesLink net links came old new link = (link ≡ None) × (net.coming new ≡ net.coming old)
    × (net.lent new ≡ net.lent old)

-- a link to an address is made
pub record MakesLink {N L : Type 0} (net : NetTells N L) (links : LinksTell L) (came : Came) (address : List ℕ)
    (old new : N) (link : Option L) : Type 0 where
  pub gives : GivesLink net links came old new link
  pub over : net.over new ≡ net.over old
  pub counts : net.link_counts new ≡ net.link_counts old
  pub asked : AsksNet (net.asked old) (net.asked new) (net_call.Connect address) (net_answer came)
  pub cause : NetCause (net.faults old) (net.faults new) (net_answer came)

-- a link is given back: it stands behind those that are over, and its counts are added to their sums
pub record TakesBack {N L : Type 0} (net : NetTells N L) (links : LinksTell L) (link : L) (old new : N) : Type 0 where
  pub lent : net.lent new + 1 ≡ net.lent old
  pub over : net.over new ≡ with_more (net.over old) (link ∷ [])
  pub counts : net.link_counts new ≡ plus (net.link_counts old) (links.counts link)
  pub coming : net.coming new ≡ net.coming old
  pub asked : net.asked new ≡ net.asked old
  pub faults : net.faults new ≡ net.faults old

-- ---- the link

-- what a receive answered, by how it came out
abbrev pub receive_answer : Came → Heard → Heard
receive_answer Well what = what
receive_answer Failed what = heard.Failed
receive_answer WantedMemory what = heard.WantOfMemory

-- what a receive that went well says
abbrev pub IsSaid : Came → Heard → Type 0
IsSaid Well heard.Failed = ⊥
IsSaid Well heard.WantOfMemory = ⊥
IsSaid came what = ⊤

-- the link says what comes next
pub record HearsLink {L : Type 0} (links : LinksTell L) (came : Came) (what : Heard) (old new : L) : Type 0 where
  pub is_said : IsSaid came what
  pub heard : links.heard new ≡ with_more (links.heard old) (note_of (receive_answer came what))
  pub coming : TakesFrame (links.coming old) (links.coming new) (receive_answer came what)
  pub sent : links.sent new ≡ links.sent old
  pub later : NoneFalls (links.counts old) (links.counts new)
  pub cause : CountRises (links.counts old) (links.counts new) (receive_answer came what)

abbrev pub link_result : Came → Result ⊤ LinkFault
link_result Well = Ok tt
link_result Failed = Err link_fault.Failed
link_result WantedMemory = Err link_fault.WantOfMemory

-- a frame is sent on the link
pub record SendsFrame {L : Type 0} (links : LinksTell L) (came : Came) (frame : List ℕ) (old new : L) : Type 0 where
  pub sent : HasSent (links.sent old) (links.sent new) frame (link_result came)
  pub heard : links.heard new ≡ links.heard old
  pub coming : links.coming new ≡ links.coming old
  pub later : NoneFalls (links.counts old) (links.counts new)
  pub cause : SendCause (links.counts old) (links.counts new) (link_result came)

-- ---- a step

-- a part that is there does so
abbrev pub OnPart : {T : Type 0} → Option T → (T → Type 0) → Type 0
OnPart None does = ⊥
OnPart (Some tells) does = does tells

-- a link that is in use does so
abbrev pub OnLink : {L : Type 0} → (L → L → Type 0) → Option L → Option L → Type 0
OnLink does (Some old) (Some new) = does old new
OnLink does old new = ⊥

-- the link that is in use, if any, is given back
abbrev pub GivesBack : {N L : Type 0} → NetTells N L → LinksTell L → Option L → N → N → Type 0
GivesBack net links None old new = new ≡ old
GivesBack net links (Some link) old new = TakesBack net links link old new

-- what a step does to the outside where its call came out so: one part of it moves, and the others stay as they are
abbrev pub ActsOn : {F W N L : Type 0} → OutsideTells F W N L → Came → Step → Outside F W N L → Outside F W N L → Type 0
ActsOn tells came (Loads ask given) old new =
    OnPart tells.files (λ files. ReadsFile files came ask given old.files new.files)
    × (new ≡ record old { files = new.files })
ActsOn tells came (Puts name bytes) old new =
    OnPart tells.files (λ files. PutsFile files came name bytes old.files new.files)
    × (new ≡ record old { files = new.files })
ActsOn tells came (Looks name) old new =
    OnPart tells.files (λ files. LooksAt files came name old.files new.files) × (new ≡ record old { files = new.files })
ActsOn tells came (Prints text) old new =
    PrintsText tells.out came text old.out new.out × (new ≡ record old { out = new.out })
ActsOn tells came (Connects address) old new =
    (old.link ≡ None)
    × OnPart tells.net (λ net. OnPart tells.links (λ links. MakesLink net links came address old.net new.net new.link))
    × (new ≡ record old { net = new.net; link = new.link })
ActsOn tells came Returns old new =
    (came ≡ Well)
    × OnPart tells.net (λ net. OnPart tells.links (λ links. GivesBack net links old.link old.net new.net))
    × (new ≡ record old { net = new.net; link = None })
ActsOn tells came (Hears what) old new =
    OnPart tells.links (λ links. OnLink (HearsLink links came what) old.link new.link)
    × (new ≡ record old { link = new.link })
ActsOn tells came (Sends frame) old new =
    OnPart tells.links (λ links. OnLink (SendsFrame links came frame) old.link new.link)
    × (new ≡ record old { link = new.link })

-- ---- steps

-- where steps are cut: at this one, which failed or wanted memory
pub record Cut : Type 0 where
  pub step : Step
  pub came : Came

-- Steps are done, one after the other. One that fails or wants memory cuts them: no other is done.
abbrev pub Acts : {F W N L : Type 0} → OutsideTells F W N L → List Step → Option Cut → Outside F W N L → Outside F W N L
    → Type 0
Acts tells [] None old new = new ≡ old
Acts tells [] (Some cut) old new = ⊥
Acts {F = F} {W = W} {N = N} {L = L} tells (step ∷ steps) cut old new =
    ((mid : Outside F W N L) × ActsOn tells Well step old mid × Acts tells steps cut mid new)
    ⊎ ((ActsOn tells Failed step old new × (cut ≡ Some (record { step = step; came = Failed })))
    ⊎ (ActsOn tells WantedMemory step old new × (cut ≡ Some (record { step = step; came = WantedMemory }))))

abbrev pub GoesBackFrom : {F W N L : Type 0} → Option L → OutsideTells F W N L → Outside F W N L → Outside F W N L
    → Type 0
GoesBackFrom None tells old new = new ≡ old
GoesBackFrom (Some link) tells old new = ActsOn tells Well Returns old new

-- the link that is in use, if any, goes back to its net
abbrev pub LinkGoesBack : {F W N L : Type 0} → OutsideTells F W N L → Outside F W N L → Outside F W N L → Type 0
LinkGoesBack tells old new = GoesBackFrom old.link tells old new
