-- Who the ends of a run are, as its mechanism sees them: their names are theirs, and what they start is theirs and bytes.
use Rattle.std.proofs.Common.{◌≡◌, ℕ, ◌≤◌, List, Option, Some, None, length, refl, sym, subst, ◌∙◌, arith}
use Rattle.std.specs.Prelude.{IfSome, codes, replicate}
use Rattle.std.proofs.lemmas.List.{length-replicate}
use Rattle.caller_laws.specs.Fitting.Bounds.{FixedFits, NetLocFits, TextFits}
use Rattle.caller_laws.specs.Fitting.BytesLaws.{all_below, below_are}
use Rattle.caller_laws.specs.Good.{IsOwnToken}
use Rattle.client_laws.specs.Bounds.Known.{SettingIsFit}
use Rattle.client_steps.specs.declared.setting.Setting.{Setting}
use Rattle.gss_mech.specs.Tokens.{IsNonce}
use Rattle.nfs_base.specs.declared.seal.End.TheVariants.{Client, Dest}
use Rattle.run_ends.specs.Ends.{count_gives}
use Rattle.run_ends.specs.Setting.{dest_name, dest_place, source_place, user}
use Rattle.run_promise.specs.Promise.{any_nonce, whose}
use Rattle.streams.specs.Draws.{counted_draw}
use Rattle.streams.specs.declared.draws.Drawn.{Drawn}
use Rattle.streams.specs.declared.draws.Drawn.TheVariants.{Got}
use Rattle.wire_xdr.specs.Cursor.{IsBytes}

pub client_is : whose user ≡ Some Client
client_is = refl

pub dest_is : whose dest_name ≡ Some Dest
dest_is = refl

pub nonce_is : IsNonce any_nonce
nonce_is = refl

pub dest_bytes : IsBytes dest_name
unfolding all_below
dest_bytes = below_are dest_name refl

place_fits : (limit : ℕ) (text : List ℕ) → length text ≤ limit → IsBytes text → TextFits limit text
place_fits limit text short are = record { short = short; are_bytes = are }

pub setting_fits : {M : Type 0} (mech : M) → SettingIsFit (record { mech = mech; me = user; source = source_place; dest = dest_place })
unfolding all_below
setting_fits mech = record {
  me = place_fits _ user (omega arith) (below_are user refl);
  source = (place_fits _ (codes "tcp") (omega arith) (below_are (codes "tcp") refl), place_fits _ (codes "127.0.0.1.8.1") (omega arith) (below_are (codes "127.0.0.1.8.1") refl));
  dest = (place_fits _ (codes "tcp") (omega arith) (below_are (codes "tcp") refl), place_fits _ (codes "127.0.0.1.8.2") (omega arith) (below_are (codes "127.0.0.1.8.2") refl));
}

-- ---- what is drawn by a counter

got_is : (nonce other : List ℕ) → Got nonce ≡ Got other → nonce ≡ other
got_is nonce other e = cc

pub drawn_fits : ((count : ℕ) → FixedFits 32 (counted_draw count)) → (v w : ℕ) (nonce : List ℕ) → count_gives v (Got nonce) w → FixedFits 32 nonce
drawn_fits draws v w nonce given = subst (λ (n : List ℕ). FixedFits 32 n) (sym (got_is nonce (counted_draw v) given.0)) (draws v)

-- ---- tokens

pub token_bytes : (o : Option (List ℕ)) (token : List ℕ) → o ≡ Some token → IfSome o IsBytes → IsBytes token
token_bytes o token is are = subst (λ (p : Option (List ℕ)). IfSome p IsBytes) is are
