-- The texts that are present, and the URIs under which the client knows them (this project).
use Rattle.std.specs.Prelude.{ℕ, List, [], Option, Some, None, slice_get, unwrap_or}
use Rattle.std.specs.Option.{option_and_then, option_map_or}
use Rattle.file_uri.specs.Paths.{uri_of}
use Rattle.document_store.specs.Store.{Store, File, Readable, Unreadable, document_of, present}

-- a text, and the URI under which the client knows it
pub record Site : Type 0 where
  pub uri : List ℕ
  pub text : List ℕ

-- the URI of a path: the one with which its document was opened, else that of its file
abbrev pub uri_at : Store → (path : List ℕ) → List ℕ
uri_at store path = option_map_or (λ document. document.uri) (document_of store path) (uri_of path)

-- what is present under a URI, where it is a text
abbrev pub site_told : (uri : List ℕ) → Option File → Option Site
site_told uri None = None
site_told uri (Some Unreadable) = None
site_told uri (Some (Readable text)) = Some (record { uri = uri; text = text })

-- the site of the path of a number, where a text is present
abbrev pub site_of : Store → (number : ℕ) → Option Site
site_of store number = option_and_then (λ path. site_told (uri_at store path) (present store path)) (slice_get store.paths number)

-- what stands for a text that is not there
abbrev pub no_site : Site
no_site = record { uri = []; text = [] }

-- the site of a number, or what stands for it
abbrev pub site_at : Store → (number : ℕ) → Site
site_at store number = unwrap_or (site_of store number) no_site
