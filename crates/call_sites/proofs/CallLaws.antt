-- Calls and their trees are one where they are one.
use Rattle.std.proofs.Common.{◌≡◌, ℕ, List, [], ◌∷◌, map, refl, ap, sym, ◌∙◌}
use Rattle.std.specs.Prelude.{IsUtf8}
use Rattle.std.specs.Rc.{rc_str_bytes}
use Rattle.std.specs.Str.{chars}
use Rattle.std.proofs.lemmas.Str.{encodes-chars}
use Rattle.std.specs.Prelude.{encode_utf8_all}
use Rattle.kept_values.specs.Trees.{Tree, Leaf, Fork}
use Rattle.kept_values.specs.Lists.{list_tree}
use Rattle.macro_library.specs.Contents.{Content, content_of}
use Rattle.macro_library.specs.Trees.{content_tree, content_in, list_in, row_tree, row_in}
use Rattle.macro_library.proofs.TreeLaws.{content_back}
use Rattle.call_sites.specs.declared.call_site.CallSite.{CallSite}
use Rattle.call_sites.specs.declared.call_site.CallSite.TheVariants as site
use Rattle.call_sites.specs.Calls.{Call, open_code, macro_call, called, tree_of, call_tree, call_of, text_in}

text_in-list_tree : (xs : List ℕ) → text_in (list_tree xs) ≡ xs
text_in-list_tree [] = refl
text_in-list_tree (x ∷ xs) = ap (λ ys. x ∷ ys) (text_in-list_tree xs)

list_back : (xs : List ℕ) → list_in (list_tree xs) ≡ xs
list_back [] = refl
list_back (x ∷ xs) = ap (λ l. x ∷ l) (list_back xs)

operands_back : (texts : List (List ℕ)) → map list_in (row_in (row_tree (map list_tree texts))) ≡ texts
operands_back [] = refl
operands_back (t ∷ ts) =
    ap (λ x. x ∷ map list_in (row_in (row_tree (map list_tree ts)))) (list_back t) ∙ ap (λ l. t ∷ l) (operands_back ts)

macro_back : (content : Content) (name : List ℕ) (operands : List (List ℕ)) →
    call_of (tree_of (macro_call content name operands)) ≡ macro_call content name operands
macro_back content name operands =
    ap (λ c. macro_call c (list_in (list_tree name)) (map list_in (row_in (row_tree (map list_tree operands))))) (content_back content)
    ∙ ap (λ n. macro_call content n (map list_in (row_in (row_tree (map list_tree operands))))) (list_back name)
    ∙ ap (macro_call content name) (operands_back operands)

-- the tree of what is called is read as that
pub call_back : (call : Call) → call_of (tree_of call) ≡ call
call_back (open_code path text) = ap (open_code path) (text_in-list_tree text)
call_back (macro_call content name operands) = macro_back content name operands

pub call_of-call_tree : (site : CallSite) → call_of (call_tree site) ≡ called site
call_of-call_tree site = call_back (called site)

-- calls of one thing have one tree, and the other way round
pub call_tree-called : (one other : CallSite) → called one ≡ called other → call_tree one ≡ call_tree other
call_tree-called one other is = ap tree_of is

pub called-call_tree : (one other : CallSite) → call_tree one ≡ call_tree other → called one ≡ called other
called-call_tree one other is = sym (call_of-call_tree one) ∙ ap call_of is ∙ call_of-call_tree other

-- texts of the same characters have the same bytes
pub bytes-chars : (bs cs : List ℕ) → IsUtf8 bs → IsUtf8 cs → chars bs ≡ chars cs → bs ≡ cs
bytes-chars bs cs b c is = sym (encodes-chars bs b) ∙ ap encode_utf8_all is ∙ encodes-chars cs c

abbrev path_in : Call → ℕ
path_in (open_code path text) = path
path_in (macro_call content name operands) = 0

abbrev characters_in : Call → List ℕ
characters_in (open_code path text) = text
characters_in (macro_call content name operands) = []

-- what open code is known by
pub path-open_code : (p q : ℕ) (s t : List ℕ) → open_code p s ≡ open_code q t → p ≡ q
path-open_code p q s t is = ap path_in is

pub text-open_code : (p q : ℕ) (s t : List ℕ) → open_code p s ≡ open_code q t → s ≡ t
text-open_code p q s t is = ap characters_in is

-- what a call of a macro is known by
abbrev content_or : Content → Call → Content
content_or other (open_code path text) = other
content_or other (macro_call content name operands) = content

abbrev name_in : Call → List ℕ
name_in (open_code path text) = []
name_in (macro_call content name operands) = name

abbrev operands_in : Call → List (List ℕ)
operands_in (open_code path text) = []
operands_in (macro_call content name operands) = operands

pub content_macro_call : (c d : Content) (n m : List ℕ) (os ps : List (List ℕ)) → macro_call c n os ≡ macro_call d m ps → c ≡ d
content_macro_call c d n m os ps is = ap (content_or c) is

pub name_macro_call : (c d : Content) (n m : List ℕ) (os ps : List (List ℕ)) → macro_call c n os ≡ macro_call d m ps → n ≡ m
name_macro_call c d n m os ps is = ap name_in is

pub operands_macro_call : (c d : Content) (n m : List ℕ) (os ps : List (List ℕ)) → macro_call c n os ≡ macro_call d m ps → os ≡ ps
operands_macro_call c d n m os ps is = ap operands_in is

pub macro_calls : (c d : Content) (n m : List ℕ) (os ps : List (List ℕ)) → c ≡ d → n ≡ m → os ≡ ps → macro_call c n os ≡ macro_call d m ps
macro_calls c d n m os ps a b e = ap (λ x. macro_call x n os) a ∙ ap (λ x. macro_call d x os) b ∙ ap (macro_call d m) e
