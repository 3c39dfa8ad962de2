use Rattle.std.proofs.Common.{◌≡◌, ◌∙◌, ◌++◌, ◌∷◌, ◌<◌, ◌^◌, [], List, length, map, refl, ap, subst, sym, arith}
use Rattle.std.proofs.lemmas.List.{map-append, length-map}
use Rattle.lookahead_scan.specs.Looks.{deepest}
use Rattle.lookahead_scan.specs.Copying.{outer_of}
use Rattle.lookahead_scan.proofs.copying.Copying.begin.Goals as goal

pub returns : goal.returns
unfolding deepest
returns c = record {
  labels = refl;
  taken = refl;
  current = ap (λ left. left.items) c.replace-outer.ensures.after;
  outer =
      ap (map (λ left. left.items)) c.in_ok-push_left.ensures
      ∙ map-append (λ left. left.items) c.args.self.now.outer.items (c.replace-outer.result ∷ [])
      ∙ ap (λ left. outer_of c.args.self.now ++ left.items ∷ []) c.replace-outer.ensures.value;
  shallow = omega (arith, length-map c.args.self.now.outer.items (λ left. left.items));
}
