-- Contents, part by part.
use Rattle.std.proofs.Common.{◌≡◌, ◌∙◌, ◌==◌, ◌&&◌, ◌||◌, ◌<◌, ◌≤◌, ℕ, suc, cond, length, get_or, drop, List, [], ◌∷◌, map, refl, sym, ap}
use Rattle.std.proofs.Math.Seq.{drop-cons}
use Rattle.std.proofs.Math.ListN.{drop_of_length-le}
use Rattle.hlasm_statements.specs.declared.fault.ColumnFault.{ColumnFault}
use Rattle.hlasm_statements.specs.declared.statement.Shape.{Shape}
use Rattle.statement_listing.specs.Listings.{Listed}
use Rattle.macro_library.specs.Contents.{Content, Written, content_of, copies_later_in, listed_in, mixed, prototype_in, text_number, variables_in, written}
use Rattle.macro_library.specs.Definitions.{Definition, heading, prototype_at}
use Rattle.macro_library.specs.Extents.{behind}
use Rattle.macro_library.specs.Later.{copies_from, copies_later, may_copy}
use Rattle.macro_library.specs.Variables.{joined, named_by, none_named, variables_from, variables_of}

abbrev made : (path line : ℕ) (shape : Shape) (label op operands : List ℕ) (faults : List ColumnFault) → Written
made path line shape label op operands faults =
    record { path = path; line = line; shape = shape; label = label; op = op; operands = operands; faults = faults }

-- what says the same in each part says the same
pub written-same : (one other : Written) → one.path ≡ other.path → one.line ≡ other.line → one.shape ≡ other.shape → one.label ≡ other.label →
    one.op ≡ other.op → one.operands ≡ other.operands → one.faults ≡ other.faults → one ≡ other
written-same a b p l s n o f c =
    ap (λ x. made x a.line a.shape a.label a.op a.operands a.faults) p
    ∙ ap (λ x. made b.path x a.shape a.label a.op a.operands a.faults) l
    ∙ ap (λ x. made b.path b.line x a.label a.op a.operands a.faults) s
    ∙ ap (λ x. made b.path b.line b.shape x a.op a.operands a.faults) n
    ∙ ap (λ x. made b.path b.line b.shape b.label x a.operands a.faults) o
    ∙ ap (λ x. made b.path b.line b.shape b.label b.op x a.faults) f
    ∙ ap (λ x. made b.path b.line b.shape b.label b.op b.operands x) c

pub content-same : (one other : Content) → one.prototype ≡ other.prototype → one.list ≡ other.list → one ≡ other
content-same a b p l =
    let with_prototype : Written → Content = λ x. record { prototype = x; list = a.list } in
    let with_list : List Written → Content = λ x. record { prototype = b.prototype; list = x } in
    ap with_prototype p ∙ ap with_list l

-- the variables that statements name follow from what they say
variables_from-written : (begun : ℕ) (lines : List Listed) → variables_from begun (map listed_in (map written lines)) ≡ variables_from begun lines
variables_from-written begun [] = refl
variables_from-written begun (one ∷ rest) =
    ap (joined (cond (begun == 0) (named_by one.statement) none_named)) (variables_from-written (behind begun one) rest)

pub variables_in-content : (definition : Definition) → variables_in (content_of definition) ≡ variables_of definition.list
variables_in-content definition = variables_from-written 0 definition.list

-- so does whether they may copy members later
copies_from-written : (begun : ℕ) (lines : List Listed) → copies_from begun (map listed_in (map written lines)) ≡ copies_from begun lines
copies_from-written begun [] = refl
copies_from-written begun (one ∷ rest) =
    ap (λ later. ((begun == 0) && may_copy one) || later) (copies_from-written (behind begun one) rest)

pub copies_later_in-content : (definition : Definition) → copies_later_in (content_of definition) ≡ copies_later definition.list
copies_later_in-content definition = copies_from-written 0 definition.list

-- and the prototype
pub prototype_in-content : (definition : Definition) → prototype_in (content_of definition) ≡ prototype_at (heading definition)
prototype_in-content definition = refl

-- ---- numbers

dropped : (xs : List ℕ) (n c : ℕ) → (n < length xs) × (c ≡ get_or xs n c) → drop n xs ≡ c ∷ drop (suc n) xs
dropped xs n c h = drop-cons xs n c h.0 ∙ ap (λ x. x ∷ drop (suc n) xs) (sym h.1)

-- one character more is read
pub one_more : (start number c result : ℕ) (xs : List ℕ) (n m : ℕ) → m ≡ suc n → (n < length xs) × (c ≡ get_or xs n c) → result ≡ mixed number c →
    text_number number (drop n xs) ≡ text_number start xs → text_number result (drop m xs) ≡ text_number start xs
one_more start number c result xs n m next at result_is so_far =
    ap (λ k. text_number result (drop k xs)) next
    ∙ ap (λ r. text_number r (drop (suc n) xs)) result_is
    ∙ ap (λ ys. text_number number ys) (sym (dropped xs n c at))
    ∙ so_far

-- all characters are read
pub at_end : (start number : ℕ) (xs : List ℕ) (n : ℕ) → length xs ≤ n →
    text_number number (drop n xs) ≡ text_number start xs → number ≡ text_number start xs
at_end start number xs n past so_far =
    ap (λ ys. text_number number ys) (sym (drop_of_length-le xs past)) ∙ so_far
