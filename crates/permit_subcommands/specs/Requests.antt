-- The request that words make.
use Rattle.std.specs.Prelude.{◌≡◌, ◌⊎◌, ℕ, Bool, false, ◌&&◌, IsTrue, List, [], ◌++◌, length, nat_le, Option, None, Some, codes, decimal}
use Rattle.std.specs.Borrow.{Bor}
use Rattle.std.specs.List.{list_all}
use Rattle.permit_base.specs.Texts.{is_token}
use Rattle.permit_subcommands.specs.Failures.{plain}
use Rattle.permit_import.specs.declared.refused.RefusalWord.TheVariants.{Caller, Store, Syntax}
use Rattle.permit_subcommands.specs.declared.failure.Failure.{Failure}
use Rattle.permit_args.specs.declared.plan.ActWords.{ActWords}

-- a byte from 0x21 to 0x7E
abbrev pub is_printed : ℕ → Bool
is_printed b = nat_le 33 b && nat_le b 126

-- a method or a path: at least one byte, each printed and no space
abbrev pub is_word : List ℕ → Bool
is_word word = nat_le 1 (length word) && list_all is_printed word

-- a body that is left out is empty
abbrev pub body_of : Option (Bor (List ℕ)) → List ℕ
body_of None = []
body_of (Some body) = body.now

-- the bytes of the request
abbrev pub request_text : List ℕ → List ℕ → List ℕ → List ℕ → List ℕ
request_text method path token body =
    method ++ (codes " " ++ (path ++ (codes " HTTP/1.1\r\nHost: localhost\r\nAuthorization: Bearer " ++ (token
    ++ (codes "\r\nContent-Length: " ++ (decimal (length body) ++ (codes "\r\n\r\n" ++ body)))))))

-- why the words make no request: the method and the path are tested before anything else, and then the token
abbrev pub IsRefusedFor : ActWords → List ℕ → Failure → Type 0
IsRefusedFor words token why =
    ((why ≡ plain Syntax) × ((is_word words.method.now && is_word words.path.now) ≡ false))
    ⊎ (IsTrue (is_word words.method.now && is_word words.path.now)
    × ((why ≡ plain Store) ⊎ ((why ≡ plain Caller) × (is_token token ≡ false))))
