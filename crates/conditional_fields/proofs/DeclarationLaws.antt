-- Declarations that go wrong behind their name.
use Rattle.std.proofs.Common.{◌≡◌, ◌+◌, ℕ, Bool, List, Option, Some, refl, sym, ap, subst, take, drop}
use Rattle.std.specs.Prelude.{Result, Err, encode_utf8_all}
use Rattle.hl_base.specs.Symbols.{symbol_of}
use Rattle.hl_base.specs.declared.set.SetKind.{SetKind}
use Rattle.hl_base.specs.declared.set.Declaration.{Declaration}
use Rattle.expression_grammar.specs.declared.fault.SyntaxFault.{SyntaxFault}
use Rattle.expression_grammar.specs.declared.fault.SyntaxFault.TheVariants.{At, OutOfMemory}
use Rattle.conditional_fields.specs.Answers.{IsWant, IsPlaced, Says}
use Rattle.conditional_fields.specs.Sequences.{letter_count}
use Rattle.conditional_fields.specs.Declarations.{declared, named, named_behind, dimension}
use Rattle.conditional_fields.proofs.AnswerLaws.{placed_says, want_says}

declared_fault : (kind : SetKind) (global : Bool) (name : List ℕ) (letters : ℕ) (array : Result Bool ℕ) (fault out : SyntaxFault) → Says (λ (b : Bool). b) array (Err fault) →
    ((place : ℕ) → IsPlaced place fault → IsPlaced (place + letters + 1) out) → (IsWant fault → IsWant out) → Says (λ (d : Declaration). d) (declared kind global name letters array) (Err out)
declared_fault kind global name letters array (At at) out is place want =
    placed_says (λ (d : Declaration). d) (declared kind global name letters array) (at + letters + 1) out (ap (declared kind global name letters) is) (place at refl)
declared_fault kind global name letters array OutOfMemory out is place want =
    want_says (λ (d : Declaration). d) (declared kind global name letters array) out (want tt)

pub named_fault : (kind : SetKind) (global : Bool) (rest name : List ℕ) (fault out : SyntaxFault) → symbol_of (encode_utf8_all (take (letter_count rest) rest)) ≡ Some name →
    Says (λ (b : Bool). b) (dimension (drop (letter_count rest) rest)) (Err fault) → ((place : ℕ) → IsPlaced place fault → IsPlaced (place + letter_count rest + 1) out) → (IsWant fault → IsWant out) →
    Says (λ (d : Declaration). d) (named_behind kind global rest) (Err out)
named_fault kind global rest name fault out e is place want =
    subst (λ (o : Option (List ℕ)). Says (λ (d : Declaration). d) (named kind global rest o) (Err out)) (sym e)
    (declared_fault kind global name (letter_count rest) (dimension (drop (letter_count rest) rest)) fault out is place want)
