use Rattle.std.proofs.Common.{◌≡◌, ◌++◌, ◌∙◌, ap, List, ℕ}
use Rattle.std.proofs.lemmas.List.Elements.{same_from_all_zip}
use Rattle.line_pieces.specs.Lines.{front, told_line}
use Rattle.line_pieces.proofs.pieces.LinePieces.ended.Goals as goal

pub returns : goal.returns
returns c =
    let copied : c.in_ok-kept.kept.items ≡ c.args.self.now = same_from_all_zip _ _ _ (c.in_ok-kept.ensures.cases.0) (λ x y same. same) ∙ c.self.view_is in
    c.tell.ensures ∙ ap told_line (c.in_ok-add_kept.ensures.added ∙ ap (λ (kept : List ℕ). front (kept ++ c.args.bytes.now)) copied)
