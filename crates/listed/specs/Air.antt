-- What `read MESSAGE` prints: the fields of a MISP message 'by rising type', 'missing ones left out' (docs/REPLAY.md).
use Rattle.refusal.specs.declared.Refusal.{Refusal}
use Rattle.std.specs.Prelude.{ℕ, List, [], ◌∷◌, ◌++◌, slice_index, ◌==◌, Result}
use Rattle.octets.specs.Choice.{pick, bit_of}
use Rattle.object.specs.declared.family.Family.TheVariants.{Misp}
use Rattle.message.specs.Reading.{headed}
use Rattle.message.specs.Field.{flag_in}
use Rattle.message.specs.Writing.{Object, object, number_object, optional_object}
use Rattle.misp.specs.declared.failure.Failure.{Failure}
use Rattle.beacons.specs.Beacon.{read_beacon, BeaconValues, beacon_told, position_object, uplink_object}
use Rattle.misp.specs.Request.{read_request, RequestValues, request_told}
use Rattle.misp.specs.Success.{read_success, SuccessValues, success_told}
use Rattle.misp.specs.Failure.{read_failure}
use Rattle.misp.specs.Terminating.{read_terminating, TerminatingValues, terminating_told}
use Rattle.listed.specs.Text.{other_text, told_text}

-- a beacon's fields (document 000, 4.5.2)
unfoldable pub beacon_objects : BeaconValues → List Object
beacon_objects v =
    let e = v.extras in
    number_object 2 8 v.stamp ∷ (position_object e.position ++ (optional_object 10 1 e.left ++ (optional_object 11 1 e.filter
    ++ (object 14 v.groups ∷ number_object 16 2 v.serial ∷ number_object 17 2 v.interval ∷ object 18 v.security
    ∷ (uplink_object e.uplink ++ (optional_object 20 1 e.channel ++ (object 21 v.layers ∷ [])))))))

-- a request's (document 000, 4.5.3)
unfoldable pub request_objects : RequestValues → List Object
request_objects v =
    number_object 2 8 v.stamp ∷ (optional_object 3 4 v.local
    ++ (object 5 v.check ∷ object 6 v.account ∷ object 8 v.seed ∷ object 18 v.security ∷ object 21 v.layers ∷ []))

-- a success's (document 000, 4.5.4)
unfoldable pub success_objects : SuccessValues → List Object
success_objects v =
    number_object 2 8 v.stamp ∷ (optional_object 3 4 v.local ++ (optional_object 4 4 v.remote
    ++ (object 5 v.check ∷ number_object 15 2 v.lifetime ∷ object 21 v.layers ∷ [])))

-- a failure's (document 000, 4.5.5)
unfoldable pub failure_objects : Failure → List Object
failure_objects v = number_object 2 8 v.stamp ∷ number_object 13 2 v.reason ∷ []

-- a terminating message's (document 000, 4.5.6)
unfoldable pub terminating_objects : TerminatingValues → List Object
terminating_objects v = number_object 2 8 v.stamp ∷ object 5 v.check ∷ optional_object 13 2 v.reason

-- what is printed of a MISP reader's answer about the message m: its code, S as it stands in m, and its fields (`0 CODE S TYPE=VALUE ..`)
abbrev pub air_text : {A : Type 0} → List ℕ → ℕ → (A → List Object) → Result A Refusal → List ℕ
air_text {A} m code objects t = told_text code (λ (v : A). bit_of (flag_in m)) objects t

-- of a message that is read as a beacon
abbrev pub beacon_text : List ℕ → List ℕ
beacon_text m = air_text m 1 beacon_objects (beacon_told m (read_beacon m))

-- as a request
abbrev pub request_text : List ℕ → List ℕ
request_text m = air_text m 3 request_objects (request_told m (read_request m))

-- as a success
abbrev pub success_text : List ℕ → List ℕ
success_text m = air_text m 4 success_objects (success_told m (read_success m))

-- as a failure
abbrev pub failure_text : List ℕ → List ℕ
failure_text m = air_text m 8 failure_objects (read_failure m)

-- as a terminating message
abbrev pub terminating_text : List ℕ → List ℕ
terminating_text m = air_text m 9 terminating_objects (terminating_told m (read_terminating m))

-- 'read MESSAGE': the reader of the message's code
unfoldable pub misp_text : List ℕ → List ℕ
misp_text m =
    let code = slice_index m 0 in
    pick (code == 1) (beacon_text m)
    (pick (code == 3) (request_text m)
    (pick (code == 4) (success_text m)
    (pick (code == 8) (failure_text m)
    (pick (code == 9) (terminating_text m)
    (other_text (headed Misp m))))))
