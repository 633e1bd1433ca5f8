-- The Authenticator (the paper: HMAC-MD5, keyed with the router secret, over Length bytes with the field zero; document 003, 3.1).
use Rattle.std.specs.Prelude.{ℕ, Bool, List, take, drop}
use Rattle.octets.specs.Put.{put_in, zeroed}
use Rattle.octets.specs.Same.{same_bytes}
use Rattle.hmac.specs.Hmac.{hmac_of}

-- of the Length bytes of a message, 'with the field zero': the 16 bytes after Code, Identifier and Length
unfoldable pub authenticator_of : List ℕ → List ℕ → List ℕ
authenticator_of secret m = hmac_of secret (zeroed 4 m)

-- a message with its Authenticator in its place
unfoldable pub sealed : List ℕ → List ℕ → List ℕ
sealed secret m = put_in m 4 (authenticator_of secret m)

-- the Authenticator that stands in a message is the right one
unfoldable pub is_authentic : List ℕ → List ℕ → Bool
is_authentic secret m = same_bytes (take 16 (drop 4 m)) (authenticator_of secret m)
