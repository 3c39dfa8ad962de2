-- The tokens of a list, item by item.
use Rattle.std.proofs.Common.{◌≡◌, ℕ, ◌+◌, ◌<◌, List, [], ◌++◌, length, map, drop, get_or, ap, sym, ◌∙◌, append_assoc}
use Rattle.json.specs.Print.{print}
use Rattle.json.specs.Token.{Token}
use Rattle.serde_json.specs.Data.{Data}
use Rattle.serde_json.specs.View.{items_of}
use Rattle.serde_json.specs.Written.{compact_text}
use Rattle.serde_json.proofs.Texts.{print-outline}
use Rattle.lsp_messages.specs.Tokens.{tokens_of, tokens_left}
use Rattle.lsp_messages.proofs.ListLaws.{drop-next}

-- tokens after others, from the beginning on
pub text_of_tokens : (d : Data) (before text : List ℕ) (old tokens : List Token)
    → text ≡ before ++ print tokens → before ≡ [] → tokens ≡ old ++ tokens_of d → old ≡ []
    → text ≡ compact_text d
text_of_tokens d before text old tokens is_text no_bytes is_tokens no_tokens =
    is_text ∙ ap (λ b. b ++ print tokens) no_bytes ∙ ap print is_tokens ∙ ap (λ ts. print (ts ++ tokens_of d)) no_tokens ∙ print-outline d

-- what is written and what is left are the whole, also after one more item was written
pub left_after_next : {A : Type 0} (f : A → Data) (xs : List A) (i : ℕ) (x : A) (now next all : List Token)
    → i < length xs → x ≡ get_or xs i x
    → now ++ tokens_left (items_of (map f (drop i xs))) ≡ all
    → next ≡ now ++ tokens_of (f x)
    → next ++ tokens_left (items_of (map f (drop (i + 1) xs))) ≡ all
left_after_next f xs i x now next all more is_next whole written =
    ap (λ ts. ts ++ tokens_left (items_of (map f (drop (i + 1) xs)))) written
    ∙ append_assoc now (tokens_of (f x)) (tokens_left (items_of (map f (drop (i + 1) xs))))
    ∙ ap (λ ys. now ++ tokens_left (items_of (map f ys))) (sym (drop-next xs i x more is_next))
    ∙ whole
