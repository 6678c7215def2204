-- What follows for any of the three files from what its accepted bytes are. Assumes nothing.
use mathlib.Core.Path.{◌≡◌, sym, ap, ◌∙◌, subst}
use mathlib.Core.Logic.{◌↔◌}
use mathlib.Core.List.{List}
use Prim.Native.Nat.{ℕ}
use Rattle.text.specs.Result.{Result}
use Rattle.text.specs.Result.Result.{accepted}
use Rattle.padding.specs.Padding.{unpadded, Padded}

module _ {A : Type 0} (parse : List ℕ → Result A) (written : A → List ℕ) (Valid : A → Type 0)
    (valid : (file : List ℕ) (x : A) → parse file ≡ accepted x → Valid x)
    (on : (file : List ℕ) (x : A) → parse file ≡ accepted x → Padded (written x) file)
    (back : (x : A) (file : List ℕ) → Valid x → Padded (written x) file → parse file ≡ accepted x) where
  -- two accepted files yield one table exactly where they are the same once their padding is taken off
  pub same_table : (a b : List ℕ) (x y : A) → parse a ≡ accepted x → parse b ≡ accepted y → (x ≡ y) ↔ (unpadded a ≡ unpadded b)
  same_table a b x y p q = (
    λ e. (on a x p).plain ∙ (ap written e ∙ sym (on b y q).plain),
    λ e.
        let w : written x ≡ written y = sym (on a x p).plain ∙ (e ∙ (on b y q).plain) in
        let r : parse a ≡ accepted y = back y a (valid b y q) (subst (λ t. Padded t a) w (on a x p)) in
        cc,
  )

  -- a file without its padding yields the same table, and what is written has none
  module _ (read : (x : A) → Valid x → parse (written x) ≡ accepted x) where
    pub unpadded_read : (file : List ℕ) (x : A) → parse file ≡ accepted x → parse (unpadded file) ≡ accepted x
    unpadded_read file x p = ap parse (on file x p).plain ∙ read x (valid file x p)

    pub written_plain : (x : A) → Valid x → unpadded (written x) ≡ written x
    written_plain x v = (on (written x) x (read x v)).plain
