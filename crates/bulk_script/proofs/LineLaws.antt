-- The lines one behind the other (this project).
use Rattle.std.proofs.Common.{◌≡◌, ◌∙◌, ℕ, List, [], ◌∷◌, ◌++◌, ap, codes, append_assoc}
use Rattle.bulk_script.specs.Texts.{text_of}

-- pieces in a row, and what stands behind them
spread : (a b c d e f g h i j k l rest : List ℕ)
    → (a ++ (b ++ (c ++ (d ++ (e ++ (f ++ (g ++ (h ++ (i ++ (j ++ (k ++ l))))))))))) ++ rest
    ≡ a ++ (b ++ (c ++ (d ++ (e ++ (f ++ (g ++ (h ++ (i ++ (j ++ (k ++ (l ++ rest)))))))))))
spread a b c d e f g h i j k l rest =
    let from_k : List ℕ = k ++ l in
    let from_j : List ℕ = j ++ from_k in
    let from_i : List ℕ = i ++ from_j in
    let from_h : List ℕ = h ++ from_i in
    let from_g : List ℕ = g ++ from_h in
    let from_f : List ℕ = f ++ from_g in
    let from_e : List ℕ = e ++ from_f in
    let from_d : List ℕ = d ++ from_e in
    let from_c : List ℕ = c ++ from_d in
    let from_b : List ℕ = b ++ from_c in
    append_assoc a from_b rest ∙ ap (λ z. a ++ z) (append_assoc b from_c rest ∙ ap (λ z. b ++ z) (append_assoc c from_d rest ∙ ap (λ z. c ++ z) (append_assoc d from_e rest ∙ ap (λ z. d ++ z) (append_assoc e from_f rest ∙ ap (λ z. e ++ z) (append_assoc f from_g rest ∙ ap (λ z. f ++ z) (append_assoc g from_h rest ∙ ap (λ z. g ++ z) (append_assoc h from_i rest ∙ ap (λ z. h ++ z) (append_assoc i from_j rest ∙ ap (λ z. i ++ z) (append_assoc j from_k rest ∙ ap (λ z. j ++ z) (append_assoc k l rest))))))))))

-- the lines of these numbers
abbrev said : (points symbols notes total edits behind : List ℕ) → List ℕ
said points symbols notes total edits behind = text_of (
    (codes "points " ++ points)
    ∷ (codes "symbols " ++ symbols)
    ∷ (codes "diagnostics " ++ notes)
    ∷ (codes "total " ++ total)
    ∷ (codes "edits " ++ edits)
    ∷ (codes "total after edits " ++ behind)
    ∷ []
    )

-- what is written between the numbers ends each line and begins the next
pub six_lines : (points symbols notes total total_is edits behind behind_is : List ℕ) → total ≡ total_is → behind ≡ behind_is
    → (codes "points " ++ (points ++ (codes "\nsymbols " ++ (symbols ++ (codes "\ndiagnostics " ++ (notes ++ (codes "\ntotal " ++ (total
    ++ (codes "\nedits " ++ (edits ++ (codes "\ntotal after edits " ++ behind))))))))))) ++ 10 ∷ []
    ≡ text_of (
    (codes "points " ++ points)
    ∷ (codes "symbols " ++ symbols)
    ∷ (codes "diagnostics " ++ notes)
    ∷ (codes "total " ++ total_is)
    ∷ (codes "edits " ++ edits)
    ∷ (codes "total after edits " ++ behind_is)
    ∷ []
    )
six_lines points symbols notes total total_is edits behind behind_is one two =
    spread (codes "points ") points (codes "\nsymbols ") symbols (codes "\ndiagnostics ") notes (codes "\ntotal ") total (codes "\nedits ") edits (codes "\ntotal after edits ") behind (10 ∷ [])
    ∙ ap (λ z. said points symbols notes z edits behind) one
    ∙ ap (λ z. said points symbols notes total_is edits z) two
