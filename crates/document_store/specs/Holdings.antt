-- What a `DocumentStore` holds, as contracts see it: the store, and the pool that has the texts (this project).
use Rattle.std.specs.Prelude.{◌≡◌, ℕ, ℤ, List, Option, None, Some, refl}
use Rattle.std.specs.Coded.{Coded, code_by, coded×, coded_ℕ, coded_ℤ, coded_list, coded_option}
use Rattle.text_pool.specs.Pool.{Pool, pool_code}
use Rattle.document_store.specs.Store.{Store, OpenDocument, File, Readable, Unreadable, present_at}

-- the documents, files and paths, and the texts under their numbers
pub record Holdings : Type 0 where
  pub store : Store
  pub pool : Pool

abbrev coded_text : Coded (List ℕ)
coded_text = coded_list coded_ℕ

abbrev pub document_code : Coded OpenDocument
document_code =
    code_by
    (List ℕ × (List ℕ × (List ℕ × (ℤ × List ℕ))))
    (coded× coded_text (coded× coded_text (coded× coded_text (coded× coded_ℤ coded_text))))
    (λ d. (d.path, (d.uri, (d.language, (d.version, d.text)))))
    (λ t. record { path = t.0; uri = t.1.0; language = t.1.1.0; version = t.1.1.1.0; text = t.1.1.1.1 })
    (λ _. refl)

abbrev pub text_of_file : File → Option (List ℕ)
text_of_file (Readable text) = Some text
text_of_file Unreadable = None

abbrev pub file_of_text : Option (List ℕ) → File
file_of_text (Some text) = Readable text
file_of_text None = Unreadable

pub file_again : (file : File) → file_of_text (text_of_file file) ≡ file
file_again (Readable text) = refl
file_again Unreadable = refl

abbrev pub file_code : Coded File
file_code = code_by (Option (List ℕ)) (coded_option coded_text) text_of_file file_of_text file_again

abbrev files_code : Coded (List (Option File))
files_code = coded_list (coded_option file_code)

abbrev pub store_code : Coded Store
store_code =
    code_by
    (List OpenDocument × (List (Option File) × List (List ℕ)))
    (coded× (coded_list document_code) (coded× files_code (coded_list coded_text)))
    (λ s. (s.documents, (s.files, s.paths)))
    (λ t. record { documents = t.0; files = t.1.0; paths = t.1.1 })
    (λ _. refl)

abbrev pub holdings_code : Coded Holdings
holdings_code =
    code_by
    (Store × Pool)
    (coded× store_code pool_code)
    (λ h. (h.store, h.pool))
    (λ t. record { store = t.0; pool = t.1 })
    (λ _. refl)

-- the text that is present at the path of a number
abbrev pub text_in : Option File → Option (List ℕ)
text_in (Some (Readable text)) = Some text
text_in (Some Unreadable) = None
text_in None = None

abbrev pub present_text : Store → ℕ → Option (List ℕ)
present_text store number = text_in (present_at store number)
