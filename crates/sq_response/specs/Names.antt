-- The names of faults, as a response tells them beside their codes. They are this project's own.
use Rattle.std.specs.Prelude.{ℕ, ◌==◌, nat_lt, if◌then◌else◌, List, codes}

-- of reading a KQL text
abbrev pub kql_name : ℕ → List ℕ
kql_name code =
    if code == 101 then codes "TooLong"
    else (if code == 102 then codes "EmptyQuery"
    else (if code == 103 then codes "UnclosedString"
    else (if code == 104 then codes "MissingOperand"
    else (if code == 105 then codes "UnexpectedClose"
    else (if code == 106 then codes "UnclosedParen"
    else (if code == 107 then codes "TooDeep"
    else (if code == 108 then codes "BadParameter"
    else (if code == 109 then codes "OtherBoost"
    else (if code == 110 then codes "BadWords"
    else (if code == 111 then codes "MissingValue"
    else (if code == 112 then codes "BadStar"
    else (if code == 113 then codes "DoubledSign"
    else codes "Other"))))))))))))

-- of reading an FQL text
abbrev pub fql_name : ℕ → List ℕ
fql_name code =
    if code == 201 then codes "TooLong"
    else (if code == 202 then codes "EmptyQuery"
    else (if code == 203 then codes "UnclosedString"
    else (if code == 204 then codes "UnknownOperator"
    else (if code == 205 then codes "MissingArgument"
    else (if code == 206 then codes "ExtraArgument"
    else (if code == 207 then codes "BadParameter"
    else (if code == 208 then codes "Unexpected"
    else (if code == 209 then codes "UnclosedParen"
    else (if code == 210 then codes "TooDeep"
    else (if code == 211 then codes "OtherBoost"
    else (if code == 212 then codes "BadStar"
    else codes "Other")))))))))))

-- of typing
abbrev pub typing_name : ℕ → List ℕ
typing_name code =
    if code == 301 then codes "UnknownProperty"
    else (if code == 302 then codes "WrongOperator"
    else (if code == 303 then codes "BadNumber"
    else (if code == 304 then codes "NumberOutOfRange"
    else (if code == 305 then codes "BadDate"
    else (if code == 306 then codes "BadYesNo"
    else (if code == 307 then codes "NoToken"
    else (if code == 308 then codes "NotInProximity"
    else (if code == 309 then codes "NestedScope"
    else (if code == 310 then codes "NeedsProperty"
    else (if code == 311 then codes "TooManyForms"
    else codes "Other"))))))))))

-- of packets and requests
abbrev pub packet_name : ℕ → List ℕ
packet_name code =
    if code == 501 then codes "NotUtf8"
    else (if code == 502 then codes "Malformed"
    else (if code == 503 then codes "UnknownElement"
    else (if code == 504 then codes "RepeatedElement"
    else (if code == 505 then codes "MissingQueryText"
    else (if code == 506 then codes "BadNumber"
    else (if code == 507 then codes "UnsupportedType"
    else (if code == 508 then codes "BadRange"
    else (if code == 509 then codes "UnknownRefiner"
    else (if code == 510 then codes "BadRefiner"
    else (if code == 511 then codes "UnknownCaller"
    else (if code == 512 then codes "UnsupportedSetting"
    else (if code == 513 then codes "TooManyProperties"
    else (if code == 514 then codes "BadDirection"
    else (if code == 515 then codes "TooManySorts"
    else (if code == 516 then codes "UnknownSort"
    else codes "Other")))))))))))))))

-- of corpus texts
abbrev pub corpus_name : ℕ → List ℕ
corpus_name code =
    if code == 601 then codes "NotUtf8"
    else (if code == 602 then codes "BadLine"
    else (if code == 603 then codes "BadNumber"
    else (if code == 604 then codes "UnknownProperty"
    else (if code == 605 then codes "Repeated"
    else (if code == 606 then codes "OutOfOrder"
    else (if code == 607 then codes "BadValue"
    else (if code == 608 then codes "Limit"
    else codes "Other")))))))

-- the name of a code; a code of no table is `Other`
unfoldable pub code_name : ℕ → List ℕ
code_name code =
    if nat_lt code 200 then kql_name code
    else (if nat_lt code 300 then fql_name code
    else (if nat_lt code 500 then typing_name code
    else (if nat_lt code 600 then packet_name code
    else corpus_name code)))
