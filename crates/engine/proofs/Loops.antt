-- What a loop over a list has done before it comes to place n, where it puts f of each element in that element's place; and f of each.
use Rattle.std.proofs.Common.{◌≡◌, ℕ, zero, suc, ◌+◌, ◌<◌, List, [], ◌∷◌, map, length, get_or, set, sym, refl, ap, ◌∙◌, arith}
use Rattle.std.proofs.lemmas.List.{ext_get_or, get_or-map, length-map}

abbrev pub each_to : {A : Type 0} → (ℕ → A → A) → ℕ → ℕ → List A → List A
each_to f zero i xs = xs
each_to f (suc n) i [] = []
each_to f (suc n) i (x ∷ xs) = f i x ∷ each_to f n (suc i) xs

-- the element at n is not changed yet, and storing it changed is one place more
next : {A : Type 0} (f : ℕ → A → A) (n i : ℕ) (xs : List A) (d : A) → set (each_to f n i xs) n (f (i + n) (get_or (each_to f n i xs) n d)) ≡ each_to f (suc n) i xs
next f zero i [] d = refl
next f zero i (x ∷ xs) d = let e : i + 0 ≡ i = omega arith in rw e
next f (suc n) i [] d = refl
next f (suc n) i (x ∷ xs) d = let e : i + suc n ≡ suc i + n = omega arith in rw e (ap (λ l. f i x ∷ l) (next f n (suc i) xs d))

pub one_place_more : {A : Type 0} (f : ℕ → A → A) (n : ℕ) (xs ys : List A) (y d : A) → ys ≡ each_to f n 0 xs → y ≡ f n (get_or ys n d) → set ys n y ≡ each_to f (n + 1) 0 xs
one_place_more f n xs ys y d h e =
    let a : n + 1 ≡ suc n = omega arith in let b : 0 + n ≡ n = omega arith in
    rw (e, h, a) (rw b at (next f n 0 xs d))

-- what has g of each element is g of the list
pub map_is : {A B : Type 0} (g : A → B) (d : A) (e : B) (xs : List A) (ys : List B) (n : ℕ) → length ys ≡ n → length xs ≡ n → ((i : ℕ) → i < n → get_or ys i e ≡ g (get_or xs i d)) → ys ≡ map g xs
map_is g d e xs ys n l l' h = ext_get_or e ys (map g xs) (l ∙ sym (length-map xs g ∙ l')) (λ i q. h i (omega (arith, l, q)) ∙ sym (get_or-map g xs i d e (omega (arith, l, l', q))))
