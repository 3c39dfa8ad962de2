use Rattle.std.proofs.Common.{◌≡◌, inl, inr, ap, refl}
use Rattle.std.specs.Char.{to_ascii_uppercase}
use Rattle.plain_terms.specs.Quoted.{hexadecimal, character}
use Rattle.plain_terms.proofs.quoted.term_of.Goals as goal

pub returns-in-Some : goal.returns-in-Some
returns-in-Some c =
    let upper : to_ascii_uppercase c.args.letter ≡ 88 = elim c.in-88.is [
      | inl capital ↦ ap to_ascii_uppercase capital
      | inr small ↦ ap to_ascii_uppercase small
    ] in
    hexadecimal c.in-Some.bits upper c.in-Some.ensures refl

pub returns-in-Some-character : goal.returns-in-Some-character
returns-in-Some-character c =
    let upper : to_ascii_uppercase c.args.letter ≡ 67 = elim c.in-67.is [
      | inl capital ↦ ap to_ascii_uppercase capital
      | inr small ↦ ap to_ascii_uppercase small
    ] in
    character c.in-Some-character.bits upper c.in-Some-character.ensures refl
